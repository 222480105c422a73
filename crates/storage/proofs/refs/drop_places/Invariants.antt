-- `drop_places`: of the first i rows, those that are left stand first (`Going`).
use Rattle.std.proofs.Common.{◌≡◌, [], length}
use Rattle.storage.specs.Refs.Refs.{ref, refs, names, lowered}
use Rattle.storage.proofs.RowsLaws.Kept.{Going}
use Rattle.storage.proofs.refs.drop_places.Given as goal

abbrev pub invariant-loop-i : goal.invariant-loop-i
invariant-loop-i l = Going (names l.k) (lowered l.k) (ref 0 []) (refs l.stride l.n l.initial.bytes) (refs l.stride l.n l.bytes) l.kept l.i × (length l.bytes ≡ length l.initial.bytes)
