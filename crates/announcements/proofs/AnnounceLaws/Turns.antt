-- The record passed entry by entry: what stands of the first i entries, what of that moves to the queue and what stays, and how many stand for each link.
-- Assumes nothing.
use Rattle.announcements.proofs.Words.{◌≡◌, refl, sym, ap, ◌∙◌, subst, ◌⊎◌, inl, inr, Bool, true, false, List, [], ◌∷◌, ◌++◌, append-nil, ℕ, zero, suc, ◌+◌, ◌≤◌, ◌<◌, zero-le, suc-le-suc, add-zero, zero-add, arith, eq-eqb, ne_eqb, lt-ltb, le-ltb, ltb, length, take, drop, get_or, set, replicate, length-set, get_or-set_same, get_or-set_other, length-take-le, if◌then◌else◌, filter, cases, filter-append, count-append, count-length, length-filter, Note, for_peer, note}
use Rattle.std.proofs.Common.{take-append-drop}
use Rattle.storage.specs.Lists.Base.{count}
use Rattle.storage.proofs.ListsLaws.Branches.{if-on}
use Rattle.storage.specs.Rows.Sorted.{Ascending}
use Rattle.storage.proofs.RowsLaws.Ids.{tri}
use Rattle.storage.proofs.ListsLaws.Firsts.{filter_more}
use Rattle.protocol.specs.Ticks.{oldest, younger}
use Rattle.decide.proofs.AnnounceDropped.{moved_all}
use Rattle.block.proofs.Scans.{keys-apart}

-- an entry passed counts in either part
count-across : (p : ℕ) (m : Note) (seen xs : List Note) → count (for_peer p) (m ∷ seen) + count (for_peer p) xs ≡ count (for_peer p) seen + count (for_peer p) (m ∷ xs)
unfolding count
count-across p m seen xs = cases (for_peer p m) (λ e. rw e (omega arith)) (λ e. rw e (omega arith))

none_passed : (p : ℕ) → 0 ≡ count (for_peer p) []
unfolding count
none_passed p = refl

-- one entry more
oldest-snoc : (seen xs : List Note) (n : Note)
    → oldest seen (xs ++ (n ∷ [])) ≡ oldest seen xs ++ (if ltb (count (for_peer n.peer) seen + count (for_peer n.peer) xs) 64 then n ∷ [] else [])
unfolding oldest
oldest-snoc seen [] n = ap (λ (m : ℕ). if ltb m 64 then n ∷ [] else []) (sym (add-zero (count (for_peer n.peer) seen)) ∙ ap (λ (m : ℕ). count (for_peer n.peer) seen + m) (none_passed n.peer))
oldest-snoc seen (m ∷ xs) n =
    let more : List Note = if ltb (count (for_peer n.peer) seen + count (for_peer n.peer) (m ∷ xs)) 64 then n ∷ [] else [] in
    ap (λ (t : List Note). if ltb (count (for_peer m.peer) seen) 64 then m ∷ t else t)
    (oldest-snoc (m ∷ seen) xs n ∙ ap (λ (k : ℕ). oldest (m ∷ seen) xs ++ (if ltb k 64 then n ∷ [] else [])) (count-across n.peer m seen xs))
    ∙ sym (if-on (λ (t : List Note). t ++ more) (ltb (count (for_peer m.peer) seen) 64) (m ∷ oldest (m ∷ seen) xs) (oldest (m ∷ seen) xs))

younger-snoc : (seen xs : List Note) (n : Note)
    → younger seen (xs ++ (n ∷ [])) ≡ younger seen xs ++ (if ltb (count (for_peer n.peer) seen + count (for_peer n.peer) xs) 64 then [] else n ∷ [])
unfolding younger
younger-snoc seen [] n = ap (λ (m : ℕ). if ltb m 64 then [] else n ∷ []) (sym (add-zero (count (for_peer n.peer) seen)) ∙ ap (λ (m : ℕ). count (for_peer n.peer) seen + m) (none_passed n.peer))
younger-snoc seen (m ∷ xs) n =
    let more : List Note = if ltb (count (for_peer n.peer) seen + count (for_peer n.peer) (m ∷ xs)) 64 then [] else n ∷ [] in
    ap (λ (t : List Note). if ltb (count (for_peer m.peer) seen) 64 then t else m ∷ t)
    (younger-snoc (m ∷ seen) xs n ∙ ap (λ (k : ℕ). younger (m ∷ seen) xs ++ (if ltb k 64 then [] else n ∷ [])) (count-across n.peer m seen xs))
    ∙ sym (if-on (λ (t : List Note). t ++ more) (ltb (count (for_peer m.peer) seen) 64) (younger (m ∷ seen) xs) (m ∷ younger (m ∷ seen) xs))

-- the first entries' oldest are among the oldest
oldest-fewer : (seen xs ys : List Note) → length (oldest seen xs) ≤ length (oldest seen (xs ++ ys))
unfolding oldest
oldest-fewer seen [] ys = zero-le
oldest-fewer seen (m ∷ xs) ys =
    cases (ltb (count (for_peer m.peer) seen) 64) (λ t. rw t (suc-le-suc (oldest-fewer (m ∷ seen) xs ys))) (λ t. rw t (oldest-fewer (m ∷ seen) xs ys))

module _ (xs : List Note) (n : Note) where
  abbrev passed : ℕ
  passed = count (for_peer n.peer) xs

  none_seen : count (for_peer n.peer) [] + passed ≡ passed
  unfolding count
  none_seen = zero-add (count (for_peer n.peer) xs)

  oldest-more : passed < 64 → oldest [] (xs ++ (n ∷ [])) ≡ oldest [] xs ++ (n ∷ [])
  oldest-more h = oldest-snoc [] xs n ∙ ap (λ (b : Bool). oldest [] xs ++ (if b then n ∷ [] else [])) (ap (λ (m : ℕ). ltb m 64) none_seen ∙ lt-ltb passed 64 h)

  oldest-same : 64 ≤ passed → oldest [] (xs ++ (n ∷ [])) ≡ oldest [] xs
  oldest-same h =
      oldest-snoc [] xs n ∙ ap (λ (b : Bool). oldest [] xs ++ (if b then n ∷ [] else [])) (ap (λ (m : ℕ). ltb m 64) none_seen ∙ le-ltb passed 64 h)
      ∙ append-nil (oldest [] xs)

  younger-same : passed < 64 → younger [] (xs ++ (n ∷ [])) ≡ younger [] xs
  younger-same h =
      younger-snoc [] xs n ∙ ap (λ (b : Bool). younger [] xs ++ (if b then [] else n ∷ [])) (ap (λ (m : ℕ). ltb m 64) none_seen ∙ lt-ltb passed 64 h)
      ∙ append-nil (younger [] xs)

  younger-more : 64 ≤ passed → younger [] (xs ++ (n ∷ [])) ≡ younger [] xs ++ (n ∷ [])
  younger-more h = younger-snoc [] xs n ∙ ap (λ (b : Bool). younger [] xs ++ (if b then [] else n ∷ [])) (ap (λ (m : ℕ). ltb m 64) none_seen ∙ le-ltb passed 64 h)

pub younger-few : (xs : List Note) → length (younger [] xs) ≤ length xs
younger-few xs = omega (arith, moved_all [] xs)

-- of a record, with the test that an identifier is still cached
module _ (held : ℕ → Bool) (ds : List Note) where
  -- what stands of the first i entries
  abbrev pub standing : ℕ → List Note
  standing i = filter (λ n. held n.id) (take i ds)

  pub standing-few : (i : ℕ) → i ≤ length ds → length (standing i) ≤ i
  standing-few i h = omega (arith, length-filter (λ n. held n.id) (take i ds), count-length (λ n. held n.id) (take i ds), length-take-le i ds h)

  pub oldest-within : (i : ℕ) → length (oldest [] (standing i)) ≤ length (oldest [] (filter (λ n. held n.id) ds))
  oldest-within i =
      let e : standing i ++ filter (λ n. held n.id) (drop i ds) ≡ filter (λ n. held n.id) ds =
      sym (filter-append (λ n. held n.id) (take i ds) (drop i ds)) ∙ ap (filter (λ n. held n.id)) (take-append-drop i ds) in
      omega (arith, oldest-fewer [] (standing i) (filter (λ n. held n.id) (drop i ds)), ap (λ (l : List Note). length (oldest [] l)) e)

  module _ (i : ℕ) (h : i < length ds) where
    abbrev here : Note
    here = get_or ds i (note 0 0 0)

    pub stands-not : held here.id ≡ false → standing (i + 1) ≡ standing i
    stands-not e =
        filter_more (λ n. held n.id) i (note 0 0 0) ds h ∙ ap (λ (t : Bool). standing i ++ (if t then here ∷ [] else [])) e ∙ append-nil (standing i)

    pub stands : held here.id ≡ true → standing (i + 1) ≡ standing i ++ (here ∷ [])
    stands e = filter_more (λ n. held n.id) i (note 0 0 0) ds h ∙ ap (λ (t : Bool). standing i ++ (if t then here ∷ [] else [])) e

-- how many of these entries are for the peer of each link
pub record Counts (ps seen : List ℕ) (xs : List Note) : Type 0 where
  pub each : (l : ℕ) → l < length ps → get_or seen l 0 ≡ count (for_peer (get_or ps l 0)) xs
  pub long : length seen ≡ 32

pub zeros : (n k : ℕ) → ◌≡◌ {A = ℕ} (get_or (replicate {A = ℕ} n 0) k 0) 0
zeros zero k = refl
zeros (suc n) zero = refl
zeros (suc n) (suc k) = zeros n k

pub counts_start : (ps seen : List ℕ) → seen ≡ replicate {A = ℕ} 32 0 → Counts ps seen []
unfolding count
counts_start ps seen e = record { each = λ l h. ap (λ (s : List ℕ). get_or s l 0) e ∙ zeros 32 l; long = ap length e }

module _ (ps seen : List ℕ) (xs : List Note) (c : Counts ps seen xs) (l : ℕ) (n : Note) (up : Ascending ps) (few : length ps ≤ 32) (h : l < length ps) (e : n.peer ≡ get_or ps l 0) where
  count-here : get_or seen l 0 ≡ count (for_peer n.peer) xs
  count-here = c.each l h ∙ ap (λ (p : ℕ). count (for_peer p) xs) (sym e)

  abbrev seen_with : List ℕ
  seen_with = set seen l (get_or seen l 0 + 1)

  same : count (for_peer (get_or ps l 0)) (xs ++ (n ∷ [])) ≡ count (for_peer (get_or ps l 0)) xs + 1
  unfolding count
  same = count-append (for_peer (get_or ps l 0)) xs (n ∷ []) ∙ ap (λ (b : Bool). count (for_peer (get_or ps l 0)) xs + (if b then 1 else 0)) (eq-eqb n.peer (get_or ps l 0) e)

  apart : (j : ℕ) → j < length ps → (j ≡ l → ⊥) → count (for_peer (get_or ps j 0)) (xs ++ (n ∷ [])) ≡ count (for_peer (get_or ps j 0)) xs
  unfolding count
  apart j q d =
      count-append (for_peer (get_or ps j 0)) xs (n ∷ [])
      ∙ ap (λ (b : Bool). count (for_peer (get_or ps j 0)) xs + (if b then 1 else 0)) (ne_eqb n.peer (get_or ps j 0) (λ z. keys-apart ps j l up q h d (sym z ∙ e)))
      ∙ add-zero (count (for_peer (get_or ps j 0)) xs)

  counts-more : Counts ps seen_with (xs ++ (n ∷ []))
  counts-more = record { each = λ j q. by-each j q (tri j l); long = length-set seen l (get_or seen l 0 + 1) ∙ c.long }
    where
      other : (j : ℕ) → j < length ps → (j ≡ l → ⊥) → get_or seen_with j 0 ≡ count (for_peer (get_or ps j 0)) (xs ++ (n ∷ []))
      other j q d = get_or-set_other seen l j (get_or seen l 0 + 1) 0 d ∙ c.each j q ∙ sym (apart j q d)

      by-each : (j : ℕ) → j < length ps → (j < l) ⊎ ((j ≡ l) ⊎ (l < j)) → get_or seen_with j 0 ≡ count (for_peer (get_or ps j 0)) (xs ++ (n ∷ []))
      by-each j q (inl s) = other j q (λ t. omega arith)
      by-each j q (inr (inl s)) =
          ap (λ (m : ℕ). get_or seen_with m 0) s
          ∙ get_or-set_same seen l (get_or seen l 0 + 1) 0 (omega (arith, c.long))
          ∙ ap (λ (m : ℕ). m + 1) (c.each l h)
          ∙ sym same
          ∙ ap (λ (m : ℕ). count (for_peer (get_or ps m 0)) (xs ++ (n ∷ []))) (sym s)
      by-each j q (inr (inr s)) = other j q (λ t. omega arith)

-- entry i of the record is read: a note for link l; the entries before it are counted
pub record Read (held : ℕ → Bool) (ps : List ℕ) (ds : List Note) (i : ℕ) (seen : List ℕ) (l id round : ℕ) : Type 0 where
  pub up : Ascending ps
  pub few : length ps ≤ 32
  pub here : i < length ds
  pub counts : Counts ps seen (standing held ds i)
  pub there : l < length ps
  pub same : get_or ds i (note 0 0 0) ≡ note (get_or ps l 0) id round

module _ {held : ℕ → Bool} {ps : List ℕ} {ds : List Note} {i : ℕ} {seen : List ℕ} {l id round : ℕ} (x : Read held ps ds i seen l id round) where
  abbrev at : Note
  at = get_or ds i (note 0 0 0)

  abbrev upto : List Note
  upto = standing held ds i

  abbrev with : List Note
  with = standing held ds (i + 1)

  held-as : (b : Bool) → held id ≡ b → held at.id ≡ b
  held-as b e = ap (λ (m : Note). held m.id) x.same ∙ e

  before : get_or seen l 0 ≡ count (for_peer at.peer) upto
  before = count-here ps seen upto x.counts l at x.up x.few x.there (ap (λ (m : Note). m.peer) x.same)

  pub seen_few : get_or seen l 0 ≤ i
  seen_few = omega (arith, before, count-length (for_peer at.peer) upto, standing-few held ds i (omega (arith, x.here)))

  -- it is not cached
  pub gone : held id ≡ false → with ≡ upto
  gone e = stands-not held ds i x.here (held-as false e)

  module _ (e : held id ≡ true) where
    more : with ≡ upto ++ (at ∷ [])
    more = stands held ds i x.here (held-as true e)

    pub counted : Counts ps (set seen l (get_or seen l 0 + 1)) with
    counted =
        subst (λ (ns : List Note). Counts ps (set seen l (get_or seen l 0 + 1)) ns) (sym more)
        (counts-more ps seen upto x.counts l at x.up x.few x.there (ap (λ (m : Note). m.peer) x.same))

    -- it is one of the oldest 64 of its peer
    pub moves : get_or seen l 0 < 64 → oldest [] with ≡ oldest [] upto ++ (at ∷ [])
    moves t = ap (oldest []) more ∙ oldest-more upto at (omega (arith, before))

    pub moves-alone : get_or seen l 0 < 64 → younger [] with ≡ younger [] upto
    moves-alone t = ap (younger []) more ∙ younger-same upto at (omega (arith, before))

    -- it is a younger one
    pub stays : 64 ≤ get_or seen l 0 → younger [] with ≡ younger [] upto ++ (at ∷ [])
    stays t = ap (younger []) more ∙ younger-more upto at (omega (arith, before))

    pub stays-alone : 64 ≤ get_or seen l 0 → oldest [] with ≡ oldest [] upto
    stays-alone t = ap (oldest []) more ∙ oldest-same upto at (omega (arith, before))
