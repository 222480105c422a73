-- `move_up`: the block that a turn moves lies before what was moved.
use Rattle.std.proofs.Common.{◌≡◌, refl, ap, ◌∙◌, ◌+◌, ◌-◌, ℕ, arith}
use Rattle.storage.specs.Rows.Part.{part, put}
use Rattle.storage.proofs.RowsLaws.Moves.{moved_none, moved-before, moved-whole, whole-moved}
use Rattle.storage.proofs.rows.table.move_up.Goals as goal

pub loop-left-init : goal.loop-left-init
loop-left-init c = (moved_none c.args.from c.args.to c.args.len c.args.bytes.now, refl, omega arith)

pub loop-left-preserved : goal.loop-left-preserved
loop-left-preserved c =
    let a = c.args in
    let l = c.loop-left in
    let n : 1024 ≡ l.left - (l.left - 1024) = omega arith in (
      moved-before a.from a.to (l.left - 1024) l.left a.len a.bytes.now l.bytes c.move_block.new.bytes (omega arith) (omega arith) (omega arith) (omega arith) (omega arith) l.invariant.0
          (c.move_block.ensures ∙ ap (λ (k : ℕ). put (a.to + (l.left - 1024)) (part (a.from + (l.left - 1024)) k l.bytes) l.bytes) n),
      c.move_block.auto.bytes ∙ l.invariant.1,
      omega arith,
    )

pub returns : goal.returns
returns c =
    let a = c.args in
    let l = c.loop-left in
    moved-whole a.from a.to a.len a.bytes.now c.move_block-2.new.bytes
    (moved-before a.from a.to 0 l.left a.len a.bytes.now l.bytes c.move_block-2.new.bytes (omega arith) (omega arith) (omega arith) (omega arith) (omega arith) l.invariant.0
    (whole-moved a.from a.to l.left l.bytes c.move_block-2.new.bytes c.move_block-2.ensures))
