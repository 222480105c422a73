-- What is read from numbers with rows beside them goes by the pairs of both.
-- Assumes nothing.
use Rattle.block.proofs.Words.{◌≡◌, refl, ap, List, [], ◌∷◌, map, ℕ, Ref, ref}
use Rattle.storage.specs.Refs.Numbers.{pairs}

-- what is read from numbers and rows, by way of the pairs
module _ {A : Type 0} (f : ℕ → List ℕ → A) where
  abbrev pub read_by : Ref → A
  read_by r = f r.place r.own

  pub pairs-read : (ls : List ℕ) (rs : List (List ℕ)) → map read_by (pairs ref ls rs) ≡ pairs f ls rs
  unfolding pairs
  pairs-read [] rs = refl
  pairs-read (l ∷ ls) [] = refl
  pairs-read (l ∷ ls) (r ∷ rs) = ap (λ (t : List A). f l r ∷ t) (pairs-read ls rs)
