-- `renumber::raise_rows`: the numbers of the first k rows are raised, the other rows are as they were.
use Rattle.block.proofs.Words.{◌≡◌, [], length, rows}
use Rattle.storage.proofs.RefsLaws.Shifts.{done}
use Rattle.block.specs.Neighbours.Raised.{raised_row}
use Rattle.block.proofs.renumber.raise.raise_rows.Given as goal

abbrev pub invariant-loop-k : goal.invariant-loop-k
invariant-loop-k l = (rows l.stride l.n l.bytes ≡ done (raised_row l.i l.offset) [] (rows l.stride l.n l.initial.bytes) l.k) × (length l.bytes ≡ length l.initial.bytes)
