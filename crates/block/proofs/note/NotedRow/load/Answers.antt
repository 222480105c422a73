-- `load`: the identifier, and behind it the round.
use Rattle.block.specs.View.{id_at, half_at}
use Rattle.block.specs.Rows.{noted}
use Rattle.block.proofs.note.NotedRow.load.Goals as goal

pub returns : goal.returns
unfolding id_at half_at
returns c = λ k. noted (c.load_id.ensures k) (c.load2.ensures.0 k)
