-- Question 17 is answered yes exactly of the areas that savings left: `area-exact`.
-- Assumes nothing.
use Rattle.whole.proofs.Words.{◌≡◌, refl, sym, ap, ◌∙◌, subst, true, false, List, [], ◌∷◌, ◌++◌, map, ℕ, zero, suc, ◌+◌, ◌*◌, ◌≤◌, ◌<◌, zero-le, suc-le-suc, le_of_suc-le-suc, not-suc-le-zero, arith, le-leb, eqb-true, eqb, length, get_or, take, replicate, set, take-suc, length-take-le, get_or-take, if◌then◌else◌, eqb-false, Entry, entry, cases, true≢, and_intro, at_all, once-of, put-nil, set-put, Counts}
use lib.ListN.{length-replicate, get_or-replicate, length-map, get_or-map}
use lib.Seq.{take-length, drop-length, set-get_or}
use Rattle.storage.specs.Lists.Base.{concat_map}
use Rattle.storage.specs.Rows.Part.{put}
use Rattle.protocol.specs.Alike.{same_list}
use Rattle.whole.specs.Held.{whole_block}
use Rattle.whole.specs.States.Kept.{Kept, keep}
use Rattle.whole.specs.States.Area.{area_bytes, kept_at, kept, kept_in, area_holds, no_room, not_saved, saved_to, save, LeftBy, zeros, saved, AreaExact}
use Rattle.whole.proofs.StatesLaws.Slots.{Sized}
use Rattle.whole.proofs.StatesLaws.AreaLaws.{nobody, Wide, area-wide, area-long, area-count, area-back}
use Rattle.whole.proofs.StatesLaws.HoldsLaws.{holds_of, holds_same, same_refl, length-kept, kept-it, kept-sized}
use Rattle.whole.proofs.StatesLaws.KeepLaws.{At, each-put, keep-put, few-after, sized-after}
use Rattle.whole.proofs.StatesLaws.CallLaws.{less, room-none, room-some}

-- what an area can keep: at most four, each name once, with whole blocks of n bytes, in their widths
pub record Proper (n : ℕ) (ks : List (Entry Kept)) : Type 0 where
  pub few : length ks ≤ 4
  pub sized : Sized nobody (λ k. k.value.block) n ks
  pub wide : (i : ℕ) → i < length ks → Wide (get_or ks i nobody)
  pub wholes : (i : ℕ) → i < length ks → whole_block (get_or ks i nobody).value.block ≡ true
  pub names : (p q : ℕ) → p < q → q < length ks → (get_or ks p nobody).key ≡ (get_or ks q nobody).key → ⊥

-- its bytes pass
module _ (n long : ℕ) (fits : 256 + n * 4 ≤ long) (ks : List (Entry Kept)) (p : Proper n ks) where
  abbrev area : List ℕ
  area = area_bytes long ks

  pub back : kept_in n area ≡ ks
  back = area-back n long fits ks p.few p.sized p.wide

  names_in : (q : ℕ) → get_or (map (λ k. k.key) ks) q 0 ≡ (get_or ks q nobody).key
  names_in q = get_or-map (λ k. k.key) ks q nobody

  pub proper-holds : area_holds n area ≡ true
  unfolding area_holds
  proper-holds =
      let l : length area ≡ long = area-long n long fits ks p.few p.sized in
      let c : kept area ≡ length ks = area-count n long fits ks p.few p.sized in
      rw back
      (and_intro (le-leb (256 + n * 4) (length area) (omega arith))
      (and_intro (le-leb (kept area) 4 (omega (arith, p.few)))
      (and_intro (once-of (map (λ k. k.key) ks) (λ i j h g e. p.names i j h (omega (arith, g, length-map ks (λ k. k.key))) (sym (names_in i) ∙ e ∙ names_in j)))
      (and_intro (at_all (λ k. whole_block k.value.block) nobody ks p.wholes)
      (ap (λ (m : ℕ). same_list eqb area (area_bytes m ks)) l ∙ same_refl area)))))

-- what is kept, of an area that passes
module _ (n : ℕ) (area : List ℕ) (h : area_holds n area ≡ true) where
  abbrev ks : List (Entry Kept)
  ks = kept_in n area

  there : (i : ℕ) → i < length ks → get_or ks i nobody ≡ kept_at n area i
  there i g = kept-it n area i (omega (arith, length-kept n area))

  few : length ks ≤ 4
  few = omega (arith, length-kept n area, (holds_of n area h).few)

  pub holds-proper : Proper n ks
  unfolding kept_at
  holds-proper = record {
    few = few;
    sized = kept-sized n area h;
    wide = λ i g. area-wide n (length area) (holds_of n area h).long ks few (kept-sized n area h) i g (there i g ∙ ap (λ (t : List ℕ). kept_at n t i) (holds_same n area h));
    wholes = λ i g. ap (λ (k : Entry Kept). whole_block k.value.block) (there i g) ∙ (holds_of n area h).slots.wholes i (omega (arith, g, length-kept n area));
    names = λ i j g m e. (holds_of n area h).slots.names i j g (omega (arith, m, length-kept n area))
        (ap (λ (k : Entry Kept). k.key) (sym (there i (omega (arith, g, m)))) ∙ e ∙ ap (λ (k : Entry Kept). k.key) (there j m));
  }

-- where a name stands in a list, or its end
module _ (name : ℕ) where
  unfoldable pub place : List (Entry Kept) → ℕ
  place [] = 0
  place (k ∷ ks) = if eqb k.key name then 0 else suc (place ks)

  before-cons : (k : Entry Kept) (ks : List (Entry Kept)) (i : ℕ) → eqb k.key name ≡ false → ((j : ℕ) → j < i → (get_or ks j nobody).key ≡ name → ⊥)
      → (j : ℕ) → j < suc i → (get_or (k ∷ ks) j nobody).key ≡ name → ⊥
  before-cons k ks i e f zero h t = eqb-false k.key name e t
  before-cons k ks i e f (suc j) h t = f j (le_of_suc-le-suc h) t

  pub at_place : (ks : List (Entry Kept)) → At name ks (place ks)
  unfolding place
  at_place [] = record { within = zero-le; before = λ j h. absurd (not-suc-le-zero h); found = λ h. absurd (not-suc-le-zero h) }
  at_place (k ∷ ks) = cases (eqb k.key name)
      (λ e. rw e (record { within = zero-le; before = λ j h. absurd (not-suc-le-zero h); found = λ h. eqb-true k.key name e }))
      (λ e. rw e (record {
        within = suc-le-suc (at_place ks).within;
        before = before-cons k ks (place ks) e (at_place ks).before;
        found = λ h. (at_place ks).found (le_of_suc-le-suc h);
      }))

-- where there is room for it the name's place is one of the four
pub has_room : (name : ℕ) (ks : List (Entry Kept)) → length ks ≤ 4 → no_room name ks ≡ false → place name ks < 4
has_room name ks few room =
    let a : At name ks (place name ks) = at_place name ks in
    less (omega (arith, a.within)) (λ t. true≢ (sym room ∙ full a t))
  where
    full : At name ks (place name ks) → place name ks ≡ 4 → no_room name ks ≡ true
    full a t =
        let e : place name ks ≡ length ks = omega (arith, a.within) in
        room-none name ks (subst (At name ks) e a) (omega (arith, a.within))

-- a state more keeps names apart
abbrev Names : List (Entry Kept) → Type 0
Names ks = (p q : ℕ) → p < q → q < length ks → (get_or ks p nobody).key ≡ (get_or ks q nobody).key → ⊥

names-put : (x : Entry Kept) (ks : List (Entry Kept)) (i : ℕ) → At x.key ks i → Names ks → Names (put i (x ∷ []) ks)
unfolding put
names-put x [] zero a h p zero l g e = not-suc-le-zero l
names-put x [] zero a h p (suc q) l g e = not-suc-le-zero (le_of_suc-le-suc g)
names-put x [] (suc i) a h p q l g e = not-suc-le-zero a.within
names-put x (k ∷ ks) zero a h p zero l g e = not-suc-le-zero l
names-put x (k ∷ ks) zero a h zero (suc q) l g e = h 0 (suc q) l g (a.found (suc-le-suc zero-le) ∙ e)
names-put x (k ∷ ks) zero a h (suc p) (suc q) l g e = h (suc p) (suc q) l g e
names-put x (k ∷ ks) (suc i) a h p zero l g e = not-suc-le-zero l
names-put x (k ∷ ks) (suc i) a h zero (suc q) l g e =
    each-put nobody (λ (z : Entry Kept). k.key ≡ z.key → ⊥) x (λ t. a.before 0 (suc-le-suc zero-le) t) ks
    (λ j m t. h 0 (suc j) (suc-le-suc zero-le) (suc-le-suc m) t) i (le_of_suc-le-suc a.within) q (le_of_suc-le-suc g) e
names-put x (k ∷ ks) (suc i) a h (suc p) (suc q) l g e =
    names-put x ks i (record { within = le_of_suc-le-suc a.within; before = λ j m. a.before (suc j) (suc-le-suc m); found = λ m. a.found (suc-le-suc m) })
    (λ p q l g. h (suc p) (suc q) (suc-le-suc l) (suc-le-suc g)) p q (le_of_suc-le-suc l) (le_of_suc-le-suc g) e

pub proper-put : (n : ℕ) (ks : List (Entry Kept)) → Proper n ks → (x : Entry Kept) → length x.value.block ≡ n → Wide x → whole_block x.value.block ≡ true → (i : ℕ) → At x.key ks i → i < 4 → Proper n (put i (x ∷ []) ks)
proper-put n ks p x size w b i a r =
    let fits : 256 + n * 4 ≤ 256 + n * 4 = omega arith in record {
      few = few-after n (256 + n * 4) fits ks p.few p.sized x size i a.within r;
      sized = sized-after n (256 + n * 4) fits ks p.few p.sized x size i a.within r;
      wide = each-put nobody Wide x w ks p.wide i a.within;
      wholes = each-put nobody (λ (k : Entry Kept). whole_block k.value.block ≡ true) x b ks p.wholes i a.within;
      names = names-put x ks i a p.names;
    }

-- no state: zeros
pub none-bytes : (long : ℕ) → 256 ≤ long → area_bytes long [] ≡ replicate long 0
unfolding area_bytes concat_map
none-bytes long h =
    let z : List ℕ = replicate long 0 in
    let l : length z ≡ long = length-replicate long 0 in
    ap (put 255 (0 ∷ [])) (put-nil 256 (put 0 [] z) ∙ put-nil 0 z)
    ∙ sym (set-put 255 0 z (omega arith))
    ∙ ap (set z 255) (sym (get_or-replicate long 255 0 0 (omega arith))) ∙ set-get_or z 255 0

pub proper-none : (n : ℕ) → Proper n []
proper-none n = record {
  few = omega arith;
  sized = λ i h. absurd (not-suc-le-zero h);
  wide = λ i h. absurd (not-suc-le-zero h);
  wholes = λ i h. absurd (not-suc-le-zero h);
  names = λ p q l h. absurd (not-suc-le-zero h);
}

-- an accepted saving
pub record SavedBy (block : List ℕ) (counts : Counts) (area : List ℕ) (name : ℕ) (area' : List ℕ) : Type 0 where
  pub whole : whole_block block ≡ true
  pub holds : area_holds (length block) area ≡ true
  pub room : no_room name (kept_in (length block) area) ≡ false
  pub after : area' ≡ area_bytes (length area) (keep (entry name (record { counts = counts; block = block })) (kept_in (length block) area))

never : {P : Type 0} (m : ℕ) (bs : List ℕ) → not_saved m ≡ saved_to bs → P
never m bs e = let z : ◌≡◌ {A = ℕ} 0 1 = cc in absurd (omega arith)

out : (b c : List ℕ) → saved_to b ≡ saved_to c → c ≡ b
out b c e = cc

pub saved-by : (block : List ℕ) (counts : Counts) (area : List ℕ) (name : ℕ) (area' : List ℕ) → save block counts area name ≡ saved_to area' → SavedBy block counts area name area'
unfolding save
saved-by block counts area name area' e =
    cases (whole_block block)
    (λ w. cases (area_holds (length block) area)
    (λ h. cases (no_room name (kept_in (length block) area))
    (λ r. never 16 area' (rw (w, h, r) at e))
    (λ r. record { whole = w; holds = h; room = r; after = out _ area' (rw (w, h, r) at e) }))
    (λ h. never 17 area' (rw (w, h) at e)))
    (λ w. never 5 area' (rw w at e))

pub save-is : (block : List ℕ) (counts : Counts) (area : List ℕ) (name : ℕ) → whole_block block ≡ true → area_holds (length block) area ≡ true → no_room name (kept_in (length block) area) ≡ false
    → save block counts area name ≡ saved_to (area_bytes (length area) (keep (entry name (record { counts = counts; block = block })) (kept_in (length block) area)))
unfolding save
save-is block counts area name w h r = rw (w, h, r) refl

-- what savings leave: the bytes of a proper list
pub record Left (n : ℕ) (area : List ℕ) : Type 0 where
  pub fits : 256 + n * 4 ≤ length area
  pub ks : List (Entry Kept)
  pub proper : Proper n ks
  pub same : area ≡ area_bytes (length area) ks

pub left : (n : ℕ) {area : List ℕ} → LeftBy n area → Left n area
left n (zeros long h) =
    let l : length (replicate {A = ℕ} long 0) ≡ long = length-replicate long 0 in record {
      fits = omega arith;
      ks = [];
      proper = proper-none n;
      same = sym (ap (λ (m : ℕ). area_bytes m []) l ∙ none-bytes long (omega arith));
    }
left n (saved area before block counts name size w area' e) =
    let v : Left n area = left n before in
    let x : Entry Kept = entry name (record { counts = counts; block = block }) in
    let s : SavedBy block counts area name area' = saved-by block counts area name area' e in
    let there : kept_in (length x.value.block) area ≡ v.ks =
    ap (λ (m : ℕ). kept_in m area) size ∙ ap (kept_in n) v.same ∙ back n (length area) v.fits v.ks v.proper in
    let a : At x.key v.ks (place x.key v.ks) = at_place x.key v.ks in
    let room : no_room x.key v.ks ≡ false = ap (no_room x.key) (sym there) ∙ s.room in
    let i : ℕ = place x.key v.ks in
    let r : i < 4 = has_room x.key v.ks v.proper.few room in
    let p : Proper n (put i (x ∷ []) v.ks) = proper-put n v.ks v.proper x size w s.whole i a r in
    let bytes : area' ≡ area_bytes (length area) (put i (x ∷ []) v.ks) =
    s.after ∙ ap (λ (t : List (Entry Kept)). area_bytes (length area) (keep x t)) there ∙ ap (area_bytes (length area)) (keep-put x.key x refl v.ks i a) in
    let l : length area' ≡ length area = ap length bytes ∙ area-long n (length area) v.fits (put i (x ∷ []) v.ks) p.few p.sized in record {
      fits = omega (arith, v.fits);
      ks = put i (x ∷ []) v.ks;
      proper = p;
      same = bytes ∙ ap (λ (m : ℕ). area_bytes m (put i (x ∷ []) v.ks)) (sym l);
    }

-- every area that savings left passes
left_by : (n : ℕ) (area : List ℕ) → LeftBy n area → area_holds n area ≡ true
left_by n area l =
    let v : Left n area = left n l in
    subst (λ (t : List ℕ). area_holds n t ≡ true) (sym v.same) (proper-holds n (length area) v.fits v.ks v.proper)

-- and every area that passes was left by savings
proper-take : (n : ℕ) (ks : List (Entry Kept)) → Proper n ks → (m : ℕ) → m ≤ length ks → Proper n (take m ks)
proper-take n ks p m h =
    let l : length (take m ks) ≡ m = length-take-le m ks h in record {
      few = omega (arith, p.few);
      sized = λ i g. ap (λ (k : Entry Kept). length k.value.block) (get_or-take m ks i nobody (omega (arith, g))) ∙ p.sized i (omega (arith, g));
      wide = λ i g. subst Wide (sym (get_or-take m ks i nobody (omega (arith, g)))) (p.wide i (omega (arith, g)));
      wholes = λ i g. ap (λ (k : Entry Kept). whole_block k.value.block) (get_or-take m ks i nobody (omega (arith, g))) ∙ p.wholes i (omega (arith, g));
      names = λ i j g o e. p.names i j g (omega (arith, o))
          (ap (λ (k : Entry Kept). k.key) (sym (get_or-take m ks i nobody (omega (arith, g, o)))) ∙ e ∙ ap (λ (k : Entry Kept). k.key) (get_or-take m ks j nobody (omega (arith, o))));
    }

module _ (n long : ℕ) (fits : 256 + n * 4 ≤ long) (ks : List (Entry Kept)) (p : Proper n ks) where
  put-end : (x : Entry Kept) (xs : List (Entry Kept)) → put (length xs) (x ∷ []) xs ≡ xs ++ (x ∷ [])
  unfolding put
  put-end x xs = rw (take-length xs, drop-length xs) refl

  next : (m : ℕ) → m < length ks → (x : Entry Kept) → x ≡ get_or ks m nobody → save x.value.block x.value.counts (area_bytes long (take m ks)) x.key ≡ saved_to (area_bytes long (take (suc m) ks))
  next m h x e =
      let front : List (Entry Kept) = take m ks in
      let lm : length front ≡ m = length-take-le m ks (omega arith) in
      let q : Proper n front = proper-take n ks p m (omega arith) in
      let size : length x.value.block ≡ n = ap (λ (k : Entry Kept). length k.value.block) e ∙ p.sized m h in
      let whole : whole_block x.value.block ≡ true = ap (λ (k : Entry Kept). whole_block k.value.block) e ∙ p.wholes m h in
      let there : kept_in (length x.value.block) (area_bytes long front) ≡ front = ap (λ (k : ℕ). kept_in k (area_bytes long front)) size ∙ back n long fits front q in
      let a : At x.key front (length front) = record {
        within = omega arith;
        before = λ j g t. p.names j m (omega (arith, g)) h
            (ap (λ (k : Entry Kept). k.key) (sym (get_or-take m ks j nobody (omega (arith, g)))) ∙ t ∙ ap (λ (k : Entry Kept). k.key) e);
        found = λ g. absurd (omega (arith, g));
      } in
      let few : length front < 4 = omega (arith, p.few) in
      let room : no_room x.key (kept_in (length x.value.block) (area_bytes long front)) ≡ false = ap (no_room x.key) there ∙ room-some x.key front (length front) a few in
      let holds : area_holds (length x.value.block) (area_bytes long front) ≡ true = ap (λ (k : ℕ). area_holds k (area_bytes long front)) size ∙ proper-holds n long fits front q in
      save-is x.value.block x.value.counts (area_bytes long front) x.key whole holds room
      ∙ ap saved_to
      ((λ t. area_bytes (area-long n long fits front q.few q.sized t) (keep x (there t)))
      ∙ ap (area_bytes long) (keep-put x.key x refl front (length front) a ∙ put-end x front
      ∙ ap (λ (k : Entry Kept). front ++ (k ∷ [])) e ∙ sym (take-suc ks m nobody h)))

  upto : (m : ℕ) → m ≤ length ks → LeftBy n (area_bytes long (take m ks))
  upto zero h = subst (LeftBy n) (sym (none-bytes long (omega arith))) (zeros long fits)
  upto (suc m) h =
      let k : Entry Kept = get_or ks m nobody in
      saved (area_bytes long (take m ks)) (upto m (omega arith)) k.value.block k.value.counts k.key (p.sized m h) (p.wide m h) (area_bytes long (take (suc m) ks)) (next m h k refl)

  pub proper-left : LeftBy n (area_bytes long ks)
  proper-left = subst (λ (t : List (Entry Kept)). LeftBy n (area_bytes long t)) (take-length ks) (upto (length ks) (omega arith))

holds-left : (n : ℕ) (area : List ℕ) → area_holds n area ≡ true → LeftBy n area
holds-left n area h =
    subst (LeftBy n) (sym (holds_same n area h)) (proper-left n (length area) (holds_of n area h).long (kept_in n area) (holds-proper n area h))

-- so question 17 is answered yes exactly of the areas that savings left
pub area-exact : AreaExact
area-exact = record { exactly = λ n area. record { only_when = left_by n area; when = holds-left n area } }
