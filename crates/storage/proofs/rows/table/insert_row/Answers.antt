-- `insert_row`: one move; the products are bounded by `mul-split` and `mul-more`.
use Rattle.storage.specs.Rows.Rows.{opened}
use Rattle.storage.proofs.rows.table.insert_row.Goals as goal

pub returns : goal.returns
unfolding opened
returns c = c.move_up.ensures
