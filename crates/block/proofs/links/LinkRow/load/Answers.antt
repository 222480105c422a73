-- `load`: the peer, and behind it the mark.
use Rattle.storage.specs.Lists.Map.{entry}
use Rattle.block.specs.View.{link_of}
use Rattle.storage.specs.Rows.Rows.{field_of}
use Rattle.block.proofs.links.LinkRow.load.Goals as goal

pub returns : goal.returns
unfolding link_of field_of
returns c = λ k. entry (c.load.ensures k) (c.of_byte.ensures k)
