-- `move_down`: the slice is what it was with the first `done` bytes from `from` put at `to`.
use Rattle.std.proofs.Common.{◌≡◌, ◌-◌, ◌≤◌, length}
use Rattle.storage.proofs.RowsLaws.Moves.{Moved}
use Rattle.storage.proofs.rows.table.move_down.Given as goal

abbrev pub invariant-loop-done : goal.invariant-loop-done
invariant-loop-done l = Moved l.from l.to 0 l.done l.initial.bytes l.bytes × (length l.bytes ≡ length l.initial.bytes) × (l.done ≤ l.len)

abbrev pub decreases-loop-done : goal.decreases-loop-done
decreases-loop-done l = l.len - l.done
