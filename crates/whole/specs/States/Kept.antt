-- "Named states": what an area keeps, "Up to four states .. under eight-byte names", in the order in which the names were first saved.
-- Assumes nothing.
use Rattle.std.specs.Prelude.{List, [], ◌∷◌, eqb, ℕ, if◌then◌else◌}
use Rattle.storage.specs.Lists.Map.{Entry}
use Rattle.protocol.specs.State.{Counts}

-- a state that is kept: "block and counts in full"
pub record Kept : Type 0 where
  pub counts : Counts
  pub block : List ℕ

-- "saving under a used one replaces it"; a new name comes last
unfoldable pub keep : {A : Type 0} → Entry A → List (Entry A) → List (Entry A)
keep x [] = x ∷ []
keep x (k ∷ ks) = if eqb x.key k.key then x ∷ ks else k ∷ keep x ks
