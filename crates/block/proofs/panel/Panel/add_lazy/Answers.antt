use Rattle.protocol.specs.Links.{add_lazy}
use Rattle.block.proofs.panel.Panel.add_lazy.Goals as goal

pub returns : goal.returns
unfolding add_lazy
returns c = record { state = c.set_mark.ensures.state; loan = c.set_mark.ensures.loan }
