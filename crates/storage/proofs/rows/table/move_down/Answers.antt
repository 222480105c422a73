-- `move_down`: the block that a turn moves lies behind what was moved.
use Rattle.std.proofs.Common.{◌≡◌, refl, ap, ◌∙◌, ◌+◌, ◌-◌, ℕ, arith}
use Rattle.storage.specs.Rows.Part.{part, put}
use Rattle.storage.proofs.RowsLaws.Moves.{moved_none, moved-behind, moved-whole}
use Rattle.storage.proofs.rows.table.move_down.Goals as goal

pub loop-done-init : goal.loop-done-init
loop-done-init c = (moved_none c.args.from c.args.to 0 c.args.bytes.now, refl, omega arith)

pub loop-done-preserved : goal.loop-done-preserved
loop-done-preserved c =
    let a = c.args in
    let l = c.loop-done in
    let n : 1024 ≡ l.done + 1024 - l.done = omega arith in (
      moved-behind a.from a.to 0 l.done (l.done + 1024) a.bytes.now l.bytes c.move_block.new.bytes (omega arith) (omega arith) (omega arith) (omega arith) (omega arith) l.invariant.0
          (c.move_block.ensures ∙ ap (λ (k : ℕ). put (a.to + l.done) (part (a.from + l.done) k l.bytes) l.bytes) n),
      c.move_block.auto.bytes ∙ l.invariant.1,
      omega arith,
    )

pub returns : goal.returns
returns c =
    let a = c.args in
    let l = c.loop-done in
    moved-whole a.from a.to a.len a.bytes.now c.move_block-2.new.bytes
    (moved-behind a.from a.to 0 l.done a.len a.bytes.now l.bytes c.move_block-2.new.bytes (omega arith) (omega arith) (omega arith) (omega arith) (omega arith) l.invariant.0 c.move_block-2.ensures)
