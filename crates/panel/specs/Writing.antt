-- What a write that fails leaves.
-- Assumes nothing.
use Rattle.std.specs.Prelude.{ℕ, ◌≡◌, Option, List, ◌++◌}
use Rattle.std.specs.Io.KnownBytes.{Appends}

-- known bytes grow by a front of these bytes
pub record AppendsFront (old new : Option (List ℕ)) (bytes : List ℕ) : Type 0 where
  pub front : List ℕ
  pub left_out : List ℕ
  pub whole : bytes ≡ front ++ left_out
  pub added : Appends old new front
