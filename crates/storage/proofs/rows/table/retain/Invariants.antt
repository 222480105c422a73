-- `table::retain`: of the first i rows, those that are kept stand first (`Going`).
use Rattle.std.proofs.Common.{◌≡◌, List, [], ℕ, length}
use Rattle.storage.specs.Rows.Rows.{rows, differs}
use Rattle.storage.proofs.RowsLaws.Kept.{Going}
use Rattle.storage.proofs.rows.table.retain.Given as goal

abbrev pub invariant-loop-i : goal.invariant-loop-i
invariant-loop-i l = Going (differs l.offset l.gone) (λ (r : List ℕ). r) [] (rows l.stride l.n l.initial.bytes) (rows l.stride l.n l.bytes) l.kept l.i × (length l.bytes ≡ length l.initial.bytes)
