use Rattle.block.specs.View.{limits_of}
use Rattle.block.proofs.LayoutLaws.{running, running-places}
use Rattle.block.proofs.layout.Layout.of.Goals as goal

pub returns : goal.returns
unfolding running
returns c = record { starts = running-places (limits_of c.args.limits) }
