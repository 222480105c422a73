-- `lower::run_end`: the numbers before `start` are others.
use Rattle.std.proofs.Common.{arith}
use Rattle.block.proofs.NeighboursLaws.LoweredRuns.{others-none}
use Rattle.block.proofs.renumber.lower.run_end.Goals as goal

pub loop-start-init : goal.loop-start-init
loop-start-init c = (omega arith, omega arith, others-none c.args.i c.args.from c.args.bytes.now)
