-- `remove_rows`: one move; the products are bounded by `mul-split` and `mul-up`.
use Rattle.storage.specs.Rows.Rows.{closed}
use Rattle.storage.proofs.rows.table.remove_rows.Goals as goal

pub returns : goal.returns
unfolding closed
returns c = c.move_down.ensures
