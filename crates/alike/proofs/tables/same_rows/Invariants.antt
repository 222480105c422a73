-- `tables::same_rows`: the first i rows agree.
use Rattle.alike.proofs.Words.{◌≡◌, true, ℕ, ◌≤◌, ◌<◌, shown}
use Rattle.alike.specs.Rows.{same_row}
use Rattle.alike.proofs.tables.same_rows.Given as goal

abbrev pub invariant-loop-i : goal.invariant-loop-i
invariant-loop-i l = (l.i ≤ l.n) × ((k : ℕ) → k < l.i → same_row l.table (shown l.x) (shown l.y) k ≡ true)
