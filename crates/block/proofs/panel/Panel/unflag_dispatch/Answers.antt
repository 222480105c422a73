use Rattle.std.proofs.Common.{refl}
use Rattle.block.specs.View.{state_of}
use Rattle.block.proofs.panel.Panel.unflag_dispatch.Goals as goal

pub returns : goal.returns
unfolding state_of
returns c = record { state = refl; loan = refl }
