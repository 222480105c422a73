-- `lower::is_among`: where none was found, the numbers before j are others.
use Rattle.std.proofs.Common.{◌≡◌, false}
use Rattle.block.specs.Neighbours.Lowered.{NoneFrom}
use Rattle.block.proofs.renumber.lower.is_among.Given as goal

abbrev pub invariant-loop-j : goal.invariant-loop-j
invariant-loop-j l = l.found ≡ false → NoneFrom l.i l.from l.j l.bytes
