-- `make_room`: the first j rows are renamed, the others are as they were.
use Rattle.std.proofs.Common.{◌≡◌, [], length}
use Rattle.storage.specs.Refs.Refs.{ref, refs, moved}
use Rattle.storage.proofs.RefsLaws.Shifts.{done}
use Rattle.storage.proofs.refs.make_room.Given as goal

abbrev pub invariant-loop-j : goal.invariant-loop-j
invariant-loop-j l = (refs l.stride l.n l.bytes ≡ done (moved l.i) (ref 0 []) (refs l.stride l.n l.initial.bytes) l.j) × (length l.bytes ≡ length l.initial.bytes)
