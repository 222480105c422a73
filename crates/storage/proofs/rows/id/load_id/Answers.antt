-- `load_id`: four words, one after the other, are the number of the 32 bytes (`read-id`).
use Rattle.storage.proofs.RowsLaws.Ids.{read-id}
use Rattle.std.proofs.Common.{arith}
use Rattle.storage.proofs.rows.id.load_id.Goals as goal

pub returns : goal.returns
returns c =
    read-id c.args.b.now c.args.at _ _ _ _ (omega arith) c.load_high-w0.ensures c.load_high-w1.ensures c.load_high-w2.ensures c.load_high-w3.ensures
