-- `move_up`: the slice is what it was with the bytes from `from + left` put at `to + left`.
use Rattle.std.proofs.Common.{◌≡◌, ◌≤◌, length}
use Rattle.storage.proofs.RowsLaws.Moves.{Moved}
use Rattle.storage.proofs.rows.table.move_up.Given as goal

abbrev pub invariant-loop-left : goal.invariant-loop-left
invariant-loop-left l = Moved l.from l.to l.left l.len l.initial.bytes l.bytes × (length l.bytes ≡ length l.initial.bytes) × (l.left ≤ l.len)

abbrev pub decreases-loop-left : goal.decreases-loop-left
decreases-loop-left l = l.left
