-- Link numbers after a link came in, one after the other.
-- Assumes nothing.
use Rattle.std.proofs.Common.{◌≡◌, sym, ap, ◌∙◌, List, [], ◌∷◌, map, ℕ, ◌+◌, ◌≤◌, ◌<◌, arith, length, get_or, set}
use mathlib.Core.List.{map-append}
use lib.ListN.{length-map}
use Rattle.storage.specs.Rows.Part.{part, put}
use Rattle.storage.proofs.RowsLaws.Parts.{length_part, part-snoc, put-snoc, get_or-put-after, part-zero, put-nil}
use Rattle.storage.specs.Refs.Refs.{shifted}
use Rattle.storage.specs.Refs.Numbers.{raised}

module _ (i a : ℕ) (xs : List ℕ) where
  pub raised-start : xs ≡ raised i a 0 xs
  unfolding raised
  raised-start = sym (ap (λ (l : List ℕ). put a (map (shifted i) l) xs) (part-zero a xs) ∙ put-nil a xs)

  length-numbers : (j : ℕ) → a + j ≤ length xs → length (map (shifted i) (part a j xs)) ≡ j
  length-numbers j h = length-map (part a j xs) (shifted i) ∙ length_part a j xs h

  pub raised-read : (j : ℕ) → a + j < length xs → get_or (raised i a j xs) (a + j) 0 ≡ get_or xs (a + j) 0
  unfolding raised
  raised-read j h = get_or-put-after a (a + j) 0 (map (shifted i) (part a j xs)) xs (omega (arith, length-numbers j (omega arith))) (omega arith)

  pub raised-more : (j : ℕ) → a + j < length xs → set (raised i a j xs) (a + j) (shifted i (get_or xs (a + j) 0)) ≡ raised i a (j + 1) xs
  unfolding raised
  raised-more j h =
      put-snoc a (a + j) (map (shifted i) (part a j xs)) (shifted i (get_or xs (a + j) 0)) xs (omega (arith, length-numbers j (omega arith))) h
      ∙ ap (λ (l : List ℕ). put a l xs) (sym (ap (map (shifted i)) (part-snoc a j 0 xs h) ∙ map-append (shifted i) (part a j xs) (get_or xs (a + j) 0 ∷ [])))
