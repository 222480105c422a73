-- `lower::is_among`: where none was found, the numbers before j are others.
use Rattle.block.proofs.NeighboursLaws.LoweredRuns.{others-none}
use Rattle.block.proofs.renumber.lower.is_among.Goals as goal

pub loop-j-init : goal.loop-j-init
loop-j-init c e = others-none c.args.i c.args.from c.args.bytes.now
