-- Question 17 by its parts.
-- Assumes nothing.
use Rattle.whole.proofs.Words.{◌≡◌, refl, sym, ap, ◌∙◌, subst, Bool, true, false, ◌&&◌, List, [], ◌∷◌, map, ℕ, ◌+◌, ◌*◌, ◌≤◌, ◌<◌, arith, eq-eqb, eqb-true, le-leb, leb-true, leb, eqb, length, get_or, all, once, Entry, cases, true≢, and_left, and_right, and_intro, all-at, at_all, once-of, of-once, part}
use lib.ListN.{length-map, get_or-map}
use Rattle.storage.proofs.RowsLaws.Digits.{Bytes}
use Rattle.protocol.specs.Alike.{same_list}
use Rattle.whole.specs.Held.{whole_block}
use Rattle.whole.specs.States.Kept.{Kept}
use Rattle.whole.specs.States.Area.{area_bytes, name_at, kept_at, slots, kept, kept_in, area_holds}
use Rattle.whole.specs.States.Calls.{Zeros, SlotsHold}
use Rattle.whole.proofs.StatesLaws.Slots.{Sized}
use Rattle.whole.proofs.StatesLaws.AreaLaws.{nobody, area-spare, area-rest, area_same, length-slots, get_or-slots, slots-sized}

pub same_refl : (xs : List ℕ) → same_list eqb xs xs ≡ true
unfolding same_list
same_refl [] = refl
same_refl (x ∷ xs) = and_intro (eq-eqb x x refl) (same_refl xs)

pub same_of : (xs ys : List ℕ) → same_list eqb xs ys ≡ true → xs ≡ ys
unfolding same_list
same_of [] [] h = refl
same_of [] (y ∷ ys) h = true≢ h
same_of (x ∷ xs) [] h = true≢ h
same_of (x ∷ xs) (y ∷ ys) h = (λ t. eqb-true x y (and_left (eqb x y) (same_list eqb xs ys) h) t ∷ same_of xs ys (and_right (eqb x y) (same_list eqb xs ys) h) t)

-- long enough, at most four, names once, blocks whole, spare places 0
pub record Holds (n : ℕ) (area : List ℕ) : Type 0 where
  pub long : 256 + n * 4 ≤ length area
  pub few : kept area ≤ 4
  pub slots : SlotsHold n (kept area) area
  pub spare : Zeros (26 * kept area) 255 area
  pub rest : Zeros (256 + n * kept area) (length area) area

pub names_at : (n : ℕ) (area : List ℕ) (k i : ℕ) → i < k → get_or (map (λ x. x.key) (slots n area k)) i 0 ≡ name_at area i
unfolding kept_at
names_at n area k i h = get_or-map (λ x. x.key) (slots n area k) i nobody ∙ ap (λ (x : Entry Kept). x.key) (get_or-slots n area k i h)

module _ (n : ℕ) (area : List ℕ) where
  abbrev ks : List (Entry Kept)
  ks = kept_in n area

  abbrev names : List ℕ
  names = map (λ x. x.key) ks

  pub length-kept : length ks ≡ kept area
  unfolding kept_in
  length-kept = length-slots n area (kept area)

  length-names : length names ≡ kept area
  length-names = length-map ks (λ x. x.key) ∙ length-kept

  name_in : (i : ℕ) → i < kept area → get_or names i 0 ≡ name_at area i
  unfolding kept_in
  name_in i h = names_at n area (kept area) i h

  block_in : (i : ℕ) → i < kept area → (get_or ks i nobody).value.block ≡ part (256 + n * i) n area
  unfolding kept_in kept_at
  block_in i h = ap (λ (x : Entry Kept). x.value.block) (get_or-slots n area (kept area) i h)

  pub holds_of : area_holds n area ≡ true → Holds n area
  unfolding area_holds kept_in
  holds_of h =
      let a : Bool = leb (256 + n * 4) (length area) in
      let b : Bool = leb (kept area) 4 in
      let c : Bool = once names in
      let d : Bool = all (λ x. whole_block x.value.block) ks in
      let e : Bool = same_list eqb area (area_bytes (length area) ks) in
      let hb = and_right a (b && (c && (d && e))) h in
      let hc = and_right b (c && (d && e)) hb in
      let hd = and_right c (d && e) hc in
      let fits : 256 + n * 4 ≤ length area = leb-true (256 + n * 4) (length area) (and_left a (b && (c && (d && e))) h) in
      let few : kept area ≤ 4 = leb-true (kept area) 4 (and_left b (c && (d && e)) hb) in
      let fewer : length ks ≤ 4 = omega (arith, length-kept) in
      let same : area ≡ area_bytes (length area) ks = same_of area (area_bytes (length area) ks) (and_right d e hd) in record {
        long = fits;
        few = few;
        slots = record {
          names = λ p q l g t. of-once names (and_left c (d && e) hc) p q l (omega (arith, length-names, g)) (name_in p (omega (arith, l, g)) ∙ t ∙ sym (name_in q g));
          wholes = λ i l. ap whole_block (sym (block_in i l)) ∙ all-at (λ x. whole_block x.value.block) nobody ks (and_left d e hd) i (omega (arith, length-kept, l));
        };
        spare = λ j l g. ap (λ (t : List ℕ). get_or t j 0) same ∙ area-spare n (length area) fits ks fewer (slots-sized n area (kept area) few fits) j (omega (arith, length-kept, l)) g;
        rest = λ j l g. ap (λ (t : List ℕ). get_or t j 0) same
            ∙ area-rest n (length area) fits ks fewer (slots-sized n area (kept area) few fits) j (omega (arith, ap (λ (m : ℕ). n * m) length-kept, l)) g;
      }

  pub kept-it : (i : ℕ) → i < kept area → get_or ks i nobody ≡ kept_at n area i
  unfolding kept_in
  kept-it i h = get_or-slots n area (kept area) i h

  pub kept-sized : area_holds n area ≡ true → Sized nobody (λ k. k.value.block) n ks
  unfolding kept_in
  kept-sized h = slots-sized n area (kept area) (holds_of h).few (holds_of h).long

  -- the bytes are those of what is kept
  pub holds_same : area_holds n area ≡ true → area ≡ area_bytes (length area) ks
  unfolding area_holds
  holds_same h =
      let a : Bool = leb (256 + n * 4) (length area) in
      let b : Bool = leb (kept area) 4 in
      let c : Bool = once names in
      let d : Bool = all (λ x. whole_block x.value.block) ks in
      let e : Bool = same_list eqb area (area_bytes (length area) ks) in
      same_of area (area_bytes (length area) ks) (and_right d e (and_right c (d && e) (and_right b (c && (d && e)) (and_right a (b && (c && (d && e))) h))))

  pub of-holds : Bytes area → Holds n area → area_holds n area ≡ true
  unfolding area_holds
  of-holds bytes h =
      and_intro (le-leb (256 + n * 4) (length area) h.long)
      (and_intro (le-leb (kept area) 4 h.few)
      (and_intro (once-of names (λ p q l g e. h.slots.names p q l (omega (arith, length-names, g)) (sym (name_in p (omega (arith, length-names, l, g))) ∙ e ∙ name_in q (omega (arith, length-names, g)))))
      (and_intro (at_all (λ x. whole_block x.value.block) nobody ks (λ i l. ap whole_block (block_in i (omega (arith, length-kept, l))) ∙ h.slots.wholes i (omega (arith, length-kept, l))))
      (subst (λ (t : List ℕ). same_list eqb area t ≡ true) (area_same n area bytes h.long h.few h.spare h.rest) (same_refl area)))))

  pub holds_not : (Holds n area → ⊥) → area_holds n area ≡ false
  holds_not h = cases (area_holds n area) (λ e. absurd (h (holds_of e))) (λ e. e)
