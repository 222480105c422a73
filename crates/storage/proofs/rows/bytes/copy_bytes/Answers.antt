-- `copy_bytes`: the part that is lent is the bytes.
use Rattle.std.proofs.Common.{ap, ◌∙◌, List, ℕ, length}
use Rattle.storage.specs.Rows.Part.{put}
use Rattle.storage.proofs.RowsLaws.Moves.{lent-put}
use Rattle.storage.proofs.rows.bytes.copy_bytes.Goals as goal

pub returns : goal.returns
returns c =
    let e = c.copy_from_slice.ensures.after in
    lent-put c.args.at (length c.args.bytes.now) c.copy_from_slice.new.self c.args.out.now (ap length e) ∙ ap (λ (ys : List ℕ). put c.args.at ys c.args.out.now) e
