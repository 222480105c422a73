-- `block_need`: the sum fits, and is the need.
use Rattle.std.proofs.Common.{arith}
use Rattle.protocol.specs.State.{block_need}
use Rattle.whole.proofs.create.block_need.Goals as goal

pub returns : goal.returns
unfolding block_need
returns c = omega arith
