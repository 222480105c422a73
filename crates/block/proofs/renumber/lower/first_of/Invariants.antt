-- `lower::first_of`: the numbers before j are others.
use Rattle.block.specs.Neighbours.Lowered.{NoneFrom}
use Rattle.block.proofs.renumber.lower.first_of.Given as goal

abbrev pub invariant-loop-j : goal.invariant-loop-j
invariant-loop-j l = NoneFrom l.i l.from l.j l.bytes
