-- `sequences::row_item`: time and key of the row.
use Rattle.alike.specs.Elements.{element}
use Rattle.alike.proofs.sequences.row_item.Goals as goal

pub returns : goal.returns
returns c = λ k. element (c.expires.ensures k) (c.key_at.ensures k) 0
