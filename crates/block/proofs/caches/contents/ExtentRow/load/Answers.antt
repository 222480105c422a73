-- `load`: the start, and behind it the length.
use Rattle.block.specs.View.{four_at}
use Rattle.block.proofs.caches.contents.ExtentRow.load.Goals as goal

pub returns : goal.returns
unfolding four_at
returns c = λ k. (c.load4.ensures.0 k, c.load4-2.ensures.0 k)
