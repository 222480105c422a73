-- `lower::drop_in_rows`: the lists of the first k rows are lowered, the other rows are as they were.
use Rattle.std.proofs.Common.{◌≡◌, length}
use Rattle.storage.proofs.RefsLaws.Shifts.{done}
use Rattle.block.specs.Neighbours.Lowered.{listed, lower_listed}
use Rattle.block.proofs.NeighboursLaws.LoweredRows.{no_listed}
use Rattle.block.proofs.renumber.lower.drop_in_rows.Given as goal

abbrev pub invariant-loop-k : goal.invariant-loop-k
invariant-loop-k l = (listed l.offset l.stride l.n l.bytes ≡ done (lower_listed l.i) no_listed (listed l.offset l.stride l.n l.initial.bytes) l.k) × (length l.bytes ≡ length l.initial.bytes)
