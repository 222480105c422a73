-- `renumber::raise_numbers`: the first j numbers are raised, the rest is as it was.
use Rattle.std.proofs.Common.{◌≡◌, length}
use Rattle.storage.specs.Refs.Numbers.{raised}
use Rattle.storage.proofs.refs.renumber.raise_numbers.Given as goal

abbrev pub invariant-loop-j : goal.invariant-loop-j
invariant-loop-j l = (l.bytes ≡ raised l.i l.at l.j l.initial.bytes) × (length l.bytes ≡ length l.initial.bytes)
