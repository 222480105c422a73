-- What a map over the elements does to parts and puts, and what a change of one part leaves.
-- Assumes nothing.
use Rattle.std.proofs.Common.{◌≡◌, refl, sym, ap, ◌∙◌, ◌⊎◌, inl, inr, List, [], ◌∷◌, ◌++◌, map, ℕ, zero, suc, ◌+◌, ◌≤◌, arith, length, take, drop}
use mathlib.Core.List.{map-append}
use lib.ListN.{length-map}
use Rattle.storage.specs.Rows.Part.{part, put}
use Rattle.storage.proofs.RowsLaws.Parts.{part-before, part-after, part-put, length_part, loan-put}

module _ {A B : Type 0} (f : A → B) where
  pub map-take : (i : ℕ) (l : List A) → map f (take i l) ≡ take i (map f l)
  map-take zero l = refl
  map-take (suc i) [] = refl
  map-take (suc i) (x ∷ l) = ap (λ (t : List B). f x ∷ t) (map-take i l)

  pub map-drop : (i : ℕ) (l : List A) → map f (drop i l) ≡ drop i (map f l)
  map-drop zero l = refl
  map-drop (suc i) [] = refl
  map-drop (suc i) (x ∷ l) = map-drop i l

  -- a typed view of a put is the put of the typed view
  pub map-put : (a : ℕ) (ys xs : List A) → map f (put a ys xs) ≡ put a (map f ys) (map f xs)
  unfolding put
  map-put a ys xs =
      map-append f (take a xs) (ys ++ drop (length ys) (drop a xs))
      ∙ ap (λ (t : List B). map f (take a xs) ++ t) (map-append f ys (drop (length ys) (drop a xs)))
      ∙ (λ k. map-take a xs k ++ (map f ys ++ (map-drop (length ys) (drop a xs) ∙ (λ j. drop (sym (length-map ys f) j) (map-drop a xs j))) k))

  pub map-gap : (i : ℕ) (x : A) (l : List A) → map f (take i l ++ (x ∷ drop i l)) ≡ take i (map f l) ++ (f x ∷ drop i (map f l))
  map-gap i x l = map-append f (take i l) (x ∷ drop i l) ∙ (λ k. map-take i l k ++ (f x ∷ map-drop i l k))

-- the parts from a to a + k and from b to b + l have nothing in common
abbrev pub Apart : ℕ → ℕ → ℕ → ℕ → Type 0
Apart a k b l = (b + l ≤ a) ⊎ (a + k ≤ b)

module _ {A : Type 0} where
  -- a change of one part leaves a part that is apart from it
  pub part_apart : (a k b l : ℕ) (ys xs : List A) → Apart a k b l → length ys ≡ k → a ≤ length xs → part b l (put a ys xs) ≡ part b l xs
  part_apart a k b l ys xs (inl h) e f = part-before b l a ys xs h f
  part_apart a k b l ys xs (inr h) e f = part-after b l a ys xs (omega arith) f

  -- a part that was lent, as it comes back: it holds what the callee left, and nothing else changed
  pub loan-part : (a k : ℕ) (ys xs : List A) → length ys ≡ k → a + k ≤ length xs → part a k (take a xs ++ (ys ++ drop k (drop a xs))) ≡ ys
  loan-part a k ys xs e h = ap (part a k) (loan-put a k ys xs e) ∙ part-put a k ys xs e h

  pub loan-only : (a k : ℕ) (ys xs : List A) → length ys ≡ k → a + k ≤ length xs
      → take a xs ++ (ys ++ drop k (drop a xs)) ≡ put a (part a k (take a xs ++ (ys ++ drop k (drop a xs)))) xs
  loan-only a k ys xs e h = loan-put a k ys xs e ∙ ap (λ (t : List A). put a t xs) (sym (loan-part a k ys xs e h))

  -- what changed only within one part left a part that is apart from it
  pub only-apart : (a k b l : ℕ) (xs ys : List A) → Apart a k b l → a + k ≤ length xs → length ys ≡ length xs → ys ≡ put a (part a k ys) xs → part b l ys ≡ part b l xs
  only-apart a k b l xs ys p h f o =
      ap (part b l) o ∙ part_apart a k b l (part a k ys) xs p (length_part a k ys (omega arith)) (omega arith)
