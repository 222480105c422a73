-- `load`: what follows the identifier is the list.
use Rattle.std.proofs.Common.{◌≡◌, ◌∙◌, arith, drop, length-drop, take_all}
use Rattle.block.specs.Rows.{missed}
use Rattle.block.specs.View.{id_at}
use Rattle.block.proofs.missing.MissedRow.load.Goals as goal

pub returns : goal.returns
unfolding id_at
returns c =
    let list : c.copy_from_slice.new.self ≡ drop 32 c.args.row.now =
    c.copy_from_slice.ensures.after ∙ take_all 97 (drop 32 c.args.row.now) (omega (arith, c.requires, length-drop 32 c.args.row.now)) in
    λ k. missed (c.load_id.ensures k) (list k)
