-- `store_id`: four puts, each where the one before it ends, are one put of the 32 bytes (`write-id`).
use Rattle.std.proofs.Common.{ap, ◌∙◌, ◌+◌, arith}
use Rattle.storage.specs.Rows.Part.{put}
use Rattle.storage.specs.Rows.Digits.{be_bytes}
use Rattle.storage.proofs.RowsLaws.Ids.{write-id}
use Rattle.storage.proofs.rows.id.store_id.Goals as goal
use Rattle.storage.proofs.rows.id.store_id.Goals.{Start}

pub returns : goal.returns
returns c =
    c.store_high-4.ensures
    ∙ ap (put (c.args.at + 24) (be_bytes 8 c.args.id.w3)) (c.store_high-3.ensures
    ∙ ap (put (c.args.at + 16) (be_bytes 8 c.args.id.w2)) (c.store_high-2.ensures
    ∙ ap (put (c.args.at + 8) (be_bytes 8 c.args.id.w1)) c.store_high.ensures))
    ∙ write-id c.args.b.now c.args.at c.args.id.w0 c.args.id.w1 c.args.id.w2 c.args.id.w3 (omega arith) (omega (arith, (goal.at.returns c).Start)) (omega (arith, (goal.at.returns c).Start)) (omega (arith, (goal.at.returns c).Start))
