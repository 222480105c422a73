use Rattle.protocol.specs.Links.{add_eager}
use Rattle.block.proofs.panel.Panel.add_eager.Goals as goal

pub returns : goal.returns
unfolding add_eager
returns c = record { state = c.set_mark.ensures.state; loan = c.set_mark.ensures.loan }
