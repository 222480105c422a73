-- What is known of a block that was opened.
-- Assumes nothing.
use Rattle.std.specs.Prelude.{◌≡◌, true, List, ℕ}
use Rattle.block.specs.Header.{head_in}
use Rattle.whole.specs.Parts.{has_limits}
use Rattle.whole.specs.declared.opened.Opened.{Opened}

-- the header is the one in the block, whose limits are in range
pub record OpensBlock (opened : Opened) (block : List ℕ) : Type 0 where
  pub limits : has_limits block ≡ true
  pub head : opened.head ≡ head_in block
