-- `lower::lower_numbers`: the first j numbers are lowered, the rest is as it was.
use Rattle.block.proofs.Words.{◌≡◌, map, length, part, put}
use Rattle.storage.specs.Refs.Numbers.{lowered}
use Rattle.block.proofs.renumber.lower.lower_numbers.Given as goal

abbrev pub invariant-loop-j : goal.invariant-loop-j
invariant-loop-j l = (l.bytes ≡ put l.at (map (lowered l.i) (part l.at l.j l.initial.bytes)) l.initial.bytes) × (length l.bytes ≡ length l.initial.bytes)
