-- A loop that changes one row after the other, and places after a row was put in: the rows that they name stay the same.
-- Assumes nothing.
use Rattle.std.proofs.Common.{◌≡◌, refl, sym, ap, ◌∙◌, ◌⊎◌, inl, inr, Bool, true, false, List, [], ◌∷◌, map, ◌++◌, ℕ, suc, ◌+◌, ◌-◌, ◌≤◌, ◌<◌, zero-add, arith, lt-ltb, le-ltb, ltb-true, ltb-false, ltb, length, get_or, take, drop, get_or-take, get_or-drop, get_or-append-add, length-take-le, if◌then◌else◌}
use mathlib.Core.List.{map-append}
use lib.ListN.{length-map, get_or-append}
use lib.Seq.{take-length}
use Rattle.storage.specs.Rows.Part.{part, put}
use Rattle.storage.proofs.RowsLaws.Parts.{put-put-next, part-snoc, length_part, part-put, length-put, get_or-put-after}
use Rattle.storage.specs.Refs.Refs.{shifted}

module _ {A : Type 0} (f : A → A) (d : A) (xs : List A) where
  -- the first j elements are changed
  abbrev pub done : ℕ → List A
  done j = put 0 (map f (part 0 j xs)) xs

  length-done : (j : ℕ) → j ≤ length xs → length (map f (part 0 j xs)) ≡ j
  length-done j h = length-map (part 0 j xs) f ∙ length_part 0 j xs (omega arith)

  pub done-start : xs ≡ done 0
  unfolding part put
  done-start = refl

  -- element j is still as it was
  pub done-read : (j : ℕ) → j < length xs → get_or (done j) j d ≡ get_or xs j d
  done-read j h = get_or-put-after 0 j d (map f (part 0 j xs)) xs (omega (arith, length-done j (omega arith))) (omega arith)

  pub done_more : (j : ℕ) → j < length xs → put j (f (get_or xs j d) ∷ []) (done j) ≡ done (j + 1)
  done_more j h =
      put-put-next 0 j (map f (part 0 j xs)) (f (get_or xs j d) ∷ []) xs (omega (arith, length-done j (omega arith))) (omega arith)
      ∙ ap (λ (t : List A). put 0 t xs) (sym (ap (map f) (part-snoc 0 j d xs (omega arith)) ∙ map-append f (part 0 j xs) (get_or xs (0 + j) d ∷ []) ∙ ap (λ (k : ℕ). map f (part 0 j xs) ++ (f (get_or xs k d) ∷ [])) (zero-add j)))

part-all : {A : Type 0} (xs : List A) → part 0 (length xs) xs ≡ xs
unfolding part
part-all xs = take-length xs

pub done_all : {A : Type 0} (f : A → A) (d : A) (xs : List A) (n : ℕ) → length xs ≡ n → done f d xs n ≡ map f xs
done_all {A} f d xs n e =
    let w : map f (part 0 n xs) ≡ map f xs = ap (λ (k : ℕ). map f (part 0 k xs)) (sym e) ∙ ap (map f) (part-all xs) in
    let l : length (map f xs) ≡ length xs = length-map xs f in
    ap (λ (t : List A). put 0 t xs) w
    ∙ sym (part-all (put 0 (map f xs) xs))
    ∙ ap (λ (k : ℕ). part 0 k (put 0 (map f xs) xs)) (length-put 0 (map f xs) xs (omega arith))
    ∙ part-put 0 (length xs) (map f xs) xs l (omega arith)

pub shifted-low : (i p : ℕ) → p < i → shifted i p ≡ p
unfolding shifted
shifted-low i p h = simp (lt-ltb p i h)

pub shifted-high : (i p : ℕ) → i ≤ p → shifted i p ≡ p + 1
unfolding shifted
shifted-high i p h = simp (le-ltb p i h)

pick-le : (b : Bool) (p : ℕ) → (if b then p else p + 1) ≤ p + 1
pick-le true p = omega arith
pick-le false p = omega arith

pub shifted-le : (i p : ℕ) → shifted i p ≤ p + 1
unfolding shifted
shifted-le i p = pick-le (ltb p i) p

pub low_or_high : (i p : ℕ) → (p < i) ⊎ (i ≤ p)
low_or_high i p = go (ltb p i) refl
  where
    go : (b : Bool) → ltb p i ≡ b → (p < i) ⊎ (i ≤ p)
    go true e = inl (ltb-true p i e)
    go false e = inr (ltb-false p i e)

module _ {A : Type 0} (d : A) where
  -- the row that a place names is the same one after a row was put in
  pub named-shifted : (i p : ℕ) (x : A) (xs : List A) → i ≤ length xs → p < length xs → get_or (take i xs ++ (x ∷ drop i xs)) (shifted i p) d ≡ get_or xs p d
  named-shifted i p x xs h l = go (low_or_high i p)
    where
      go : (p < i) ⊎ (i ≤ p) → get_or (take i xs ++ (x ∷ drop i xs)) (shifted i p) d ≡ get_or xs p d
      go (inl b) =
          ap (λ (k : ℕ). get_or (take i xs ++ (x ∷ drop i xs)) k d) (shifted-low i p b)
          ∙ get_or-append (take i xs) (x ∷ drop i xs) d p (omega (arith, length-take-le i xs h))
          ∙ get_or-take i xs p d b
      go (inr b) =
          let e : p + 1 ≡ length (take i xs) + suc (p - i) = omega (arith, length-take-le i xs h) in
          let g : i + (p - i) ≡ p = omega arith in
          ap (λ (k : ℕ). get_or (take i xs ++ (x ∷ drop i xs)) k d) (shifted-high i p b ∙ e)
          ∙ get_or-append-add (take i xs) (x ∷ drop i xs) (suc (p - i)) d
          ∙ get_or-drop i xs (p - i) d
          ∙ ap (λ (k : ℕ). get_or xs k d) g

  -- and after the first k rows are gone
  pub named-dropped : (k p : ℕ) (xs : List A) → k ≤ p → get_or (drop k xs) (p - k) d ≡ get_or xs p d
  named-dropped k p xs h =
      let g : k + (p - k) ≡ p = omega arith in
      get_or-drop k xs (p - k) d ∙ ap (λ (j : ℕ). get_or xs j d) g
