-- `move_block`: what was copied out is put back where it goes.
use Rattle.std.proofs.Common.{◌≡◌, ap, ◌∙◌, List, ℕ, arith, length}
use Rattle.storage.specs.Rows.Part.{part, put}
use Rattle.storage.proofs.RowsLaws.Parts.{length_part, part-between}
use Rattle.storage.proofs.RowsLaws.Moves.{lent-put}
use Rattle.storage.proofs.rows.table.move_block.Goals as goal

pub returns : goal.returns
returns c =
    let a = c.args in
    let e : c.copy_from_slice-2.new.self ≡ part a.from a.len a.bytes.now = c.copy_from_slice-2.ensures.after ∙ c.copy_from_slice.ensures.after ∙ part-between a.from a.len a.bytes.now in
    let n : length c.copy_from_slice-2.new.self ≡ a.len = ap length e ∙ length_part a.from a.len a.bytes.now (omega arith) in
    lent-put a.to a.len c.copy_from_slice-2.new.self a.bytes.now n ∙ ap (λ (ys : List ℕ). put a.to ys a.bytes.now) e
