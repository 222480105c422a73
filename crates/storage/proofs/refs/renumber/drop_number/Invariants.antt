-- `renumber::drop_number`: of the first j entries, those that are left stand first (`Going`).
use Rattle.std.proofs.Common.{◌≡◌, [], length}
use Rattle.storage.specs.Refs.Refs.{ref}
use Rattle.storage.proofs.RowsLaws.Kept.{Going}
use Rattle.storage.specs.Refs.Numbers.{stays, lower, entries}
use Rattle.storage.proofs.refs.renumber.drop_number.Given as goal

abbrev pub invariant-loop-j : goal.invariant-loop-j
invariant-loop-j l = Going (stays l.i) (lower l.i) (ref 0 []) (entries l.at l.stride l.n l.initial.bytes) (entries l.at l.stride l.n l.bytes) l.kept l.j × (length l.bytes ≡ length l.initial.bytes)
