-- A loop that keeps some rows, changed, one behind the other: a turn of it, for any test and any change; and for the test of one byte of a row.
-- Assumes nothing.
use Rattle.std.proofs.Common.{◌≡◌, refl, sym, ap, ◌∙◌, subst, Bool, true, false, not, List, [], ◌∷◌, map, ◌++◌, map-id, append-nil, ℕ, ◌+◌, ◌*◌, ◌≤◌, ◌<◌, arith, eq-eqb, ne_eqb, length, get_or, take, length-append, take_all, if◌then◌else◌}
use mathlib.Core.List.{map-append}
use Rattle.storage.specs.Lists.Base.{filter}
use Rattle.storage.proofs.ListsLaws.Firsts.{only, filter_more}
use Rattle.storage.specs.Rows.Part.{part, put}
use Rattle.storage.specs.Rows.Rows.{rows, differs}
use Rattle.storage.proofs.RowsLaws.Parts.{put-put-next, part-put, length_part, get_or-put-after, get_d_part}
use Rattle.storage.proofs.RowsLaws.Rows.{length-rows, get_d_rows, take-rows, rows-put-one, row-end}

module _ {A : Type 0} (q : A → Bool) (f : A → A) (d : A) (xs : List A) where
  -- what is kept of the first i
  abbrev pub kept_of : ℕ → List A
  kept_of i = map f (filter q (take i xs))

  keep-more : (i : ℕ) → i < length xs → kept_of (i + 1) ≡ kept_of i ++ map f (only q (get_or xs i d))
  keep-more i h = ap (map f) (filter_more q i d xs h) ∙ map-append f (filter q (take i xs)) (only q (get_or xs i d))

  keep_one : (i : ℕ) → i < length xs → q (get_or xs i d) ≡ true → kept_of (i + 1) ≡ kept_of i ++ (f (get_or xs i d) ∷ [])
  keep_one i h e = keep-more i h ∙ ap (λ (t : Bool). kept_of i ++ map f (if t then get_or xs i d ∷ [] else [])) e

  keep-none : (i : ℕ) → i < length xs → q (get_or xs i d) ≡ false → kept_of (i + 1) ≡ kept_of i
  keep-none i h e = keep-more i h ∙ ap (λ (t : Bool). kept_of i ++ map f (if t then get_or xs i d ∷ [] else [])) e ∙ append-nil (kept_of i)

  -- of the first i, those that are kept stand first, j in number; all else is as it was
  pub record Going (ys : List A) (j i : ℕ) : Type 0 where
    pub within : i ≤ length xs
    pub behind : j ≤ i
    pub here : ys ≡ put 0 (kept_of i) xs
    pub count : length (kept_of i) ≡ j

  pub going_start : Going xs 0 0
  unfolding filter put
  going_start = record { within = omega arith; behind = omega arith; here = refl; count = refl }

  -- what is not reached is as it was
  pub going-read : (ys : List A) (j i : ℕ) → Going ys j i → get_or ys i d ≡ get_or xs i d
  going-read ys j i g =
      ap (λ (l : List A). get_or l i d) g.here ∙ get_or-put-after 0 i d (kept_of i) xs (omega (arith, g.count, g.behind)) (omega arith)

  pub going-keep : (ys : List A) (j i : ℕ) → Going ys j i → i < length xs → q (get_or xs i d) ≡ true → Going (put j (f (get_or xs i d) ∷ []) ys) (j + 1) (i + 1)
  going-keep ys j i g h e =
      let y : A = f (get_or xs i d) in
      let m : kept_of (i + 1) ≡ kept_of i ++ (y ∷ []) = keep_one i h e in
      record {
        within = omega arith;
        behind = omega (arith, g.behind);
        here =
            ap (put j (y ∷ [])) g.here
            ∙ put-put-next 0 j (kept_of i) (y ∷ []) xs (omega (arith, g.count)) (omega (arith, g.behind))
            ∙ ap (λ (t : List A). put 0 t xs) (sym m);
        count = ap length m ∙ length-append (kept_of i) (y ∷ []) ∙ ap (λ (n : ℕ). n + 1) g.count;
      }

  pub going_drop : (ys : List A) (j i : ℕ) → Going ys j i → i < length xs → q (get_or xs i d) ≡ false → Going ys j (i + 1)
  going_drop ys j i g h e =
      let m : kept_of (i + 1) ≡ kept_of i = keep-none i h e in
      record {
        within = omega arith;
        behind = omega (arith, g.behind);
        here = g.here ∙ ap (λ (t : List A). put 0 t xs) (sym m);
        count = ap length m ∙ g.count;
      }

  pub going_done : (ys : List A) (j i : ℕ) → Going ys j i → length xs ≤ i → take j ys ≡ map f (filter q xs)
  unfolding part
  going_done ys j i g h =
      ap (take j) g.here
      ∙ part-put 0 j (kept_of i) xs g.count (omega (arith, g.behind, g.within))
      ∙ ap (λ (l : List A). map f (filter q l)) (take_all i xs h)

-- a turn of the loop that keeps the rows whose byte at o is not v
module _ (s n o v : ℕ) (xs b : List ℕ) (w : o < s) (room : n * s ≤ length xs) (long : length b ≡ length xs) (k j : ℕ) (h : j < n)
    (g : Going (differs o v) (λ (r : List ℕ). r) [] (rows s n xs) (rows s n b) k j) where
  row-was : part (j * s) s b ≡ get_or (rows s n xs) j []
  row-was = sym (get_d_rows s n j [] b h) ∙ going-read (differs o v) (λ (r : List ℕ). r) [] (rows s n xs) (rows s n b) k j g

  byte-was : get_or (get_or (rows s n xs) j []) o 0 ≡ get_or b (j * s + o) 0
  byte-was = sym (ap (λ (r : List ℕ). get_or r o 0) row-was) ∙ get_d_part (j * s) s o 0 b w

  inside : j < length (rows s n xs)
  inside = omega (arith, length-rows s n xs)

  pub turn-gone : get_or b (j * s + o) 0 ≡ v → Going (differs o v) (λ (r : List ℕ). r) [] (rows s n xs) (rows s n b) k (j + 1)
  turn-gone e =
      going_drop (differs o v) (λ (r : List ℕ). r) [] (rows s n xs) (rows s n b) k j g inside
      (ap not (eq-eqb (get_or (get_or (rows s n xs) j []) o 0) v (byte-was ∙ e)))

  pub turn-stays : (get_or b (j * s + o) 0 ≡ v → ⊥)
      → Going (differs o v) (λ (r : List ℕ). r) [] (rows s n xs) (rows s n (put (k * s) (part (j * s) s b) b)) (k + 1) (j + 1)
  turn-stays e =
      let l : length (part (j * s) s b) ≡ s = length_part (j * s) s b (omega (arith, row-end s n j h)) in
      let p : rows s n (put (k * s) (part (j * s) s b) b) ≡ put k (get_or (rows s n xs) j [] ∷ []) (rows s n b) =
      rows-put-one s k n (part (j * s) s b) b l (omega (arith, g.behind)) (omega arith) ∙ ap (λ (r : List ℕ). put k (r ∷ []) (rows s n b)) row-was in
      subst (λ (rs : List (List ℕ)). Going (differs o v) (λ (r : List ℕ). r) [] (rows s n xs) rs (k + 1) (j + 1)) (sym p)
      (going-keep (differs o v) (λ (r : List ℕ). r) [] (rows s n xs) (rows s n b) k j g inside
      (ap not (ne_eqb (get_or (get_or (rows s n xs) j []) o 0) v (λ z. e (sym byte-was ∙ z)))))

pub retained : (s n o v : ℕ) (xs b : List ℕ) (k j : ℕ) → Going (differs o v) (λ (r : List ℕ). r) [] (rows s n xs) (rows s n b) k j → n ≤ j → k ≤ n
    → rows s k b ≡ filter (differs o v) (rows s n xs)
retained s n o v xs b k j g h q =
    sym (take-rows s k n b q)
    ∙ going_done (differs o v) (λ (r : List ℕ). r) [] (rows s n xs) (rows s n b) k j g (omega (arith, length-rows s n xs))
    ∙ map-id (filter (differs o v) (rows s n xs))
