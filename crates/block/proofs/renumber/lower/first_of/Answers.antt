-- `lower::first_of`: the numbers before j are others.
use Rattle.block.proofs.NeighboursLaws.LoweredRuns.{others-none, others-more}
use Rattle.block.proofs.renumber.lower.first_of.Goals as goal

pub loop-j-init : goal.loop-j-init
loop-j-init c = others-none c.args.i c.args.from c.args.bytes.now

pub loop-j-preserved : goal.loop-j-preserved
loop-j-preserved c = others-more c.args.i c.args.from c.loop-j.j c.args.bytes.now c.loop-j.invariant c.if-bytes-j.false
