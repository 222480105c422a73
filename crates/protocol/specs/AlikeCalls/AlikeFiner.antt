-- "Order in alike": "Two blocks alike in the new way are alike in the old way."
-- Assumes nothing.
use Rattle.std.specs.Prelude.{ℕ, ◌≡◌, true, Option, Some, None}
use Rattle.protocol.specs.State.{State}
use Rattle.protocol.specs.Whole.{whole_state}
use Rattle.protocol.specs.Alike.{alike, Likeness, not_whole, likeness, alike_blocks}
use Rattle.protocol.specs.AlikeUnordered.{alike_unordered}

-- in the old way, of the states of two whole blocks
unfoldable pub likeness_unordered : Option State → Option State → Likeness
likeness_unordered None b = not_whole
likeness_unordered (Some a) None = not_whole
likeness_unordered (Some a) (Some b) = likeness (alike_unordered a b)

-- and of two blocks, each given by its length and the state that its bytes hold
unfoldable pub alike_blocks_unordered : ℕ → Option State → ℕ → Option State → Likeness
alike_blocks_unordered length_a a length_b b = likeness_unordered (whole_state length_a a) (whole_state length_b b)

pub record AlikeFiner : Type 0 where
  -- of two states
  pub states : (s t : State) → alike s t ≡ true → alike_unordered s t ≡ true
  -- "Two blocks alike in the new way are alike in the old way"
  pub blocks : (length_a : ℕ) (a : Option State) (length_b : ℕ) (b : Option State) → alike_blocks length_a a length_b b ≡ likeness true → alike_blocks_unordered length_a a length_b b ≡ likeness true
