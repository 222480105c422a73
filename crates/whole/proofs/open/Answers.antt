-- `open` meets its contract: the limits are in range.
use Rattle.whole.proofs.WholeLaws.{limits_ceilings}
use Rattle.whole.proofs.open.Goals as goal

pub of-requires : goal.of-requires
of-requires c = limits_ceilings c.load_head-head.result c.args.block.now c.load_head-head.ensures c.requires
