-- `lower::run_end`: the numbers before `start` are others.
use Rattle.std.proofs.Common.{◌≤◌, ◌-◌}
use Rattle.block.specs.Neighbours.Lowered.{NoneFrom}
use Rattle.block.proofs.renumber.lower.run_end.Given as goal

abbrev pub invariant-loop-start : goal.invariant-loop-start
invariant-loop-start l = (l.from ≤ l.start) × (l.start ≤ l.to) × NoneFrom l.i l.from l.start l.bytes

abbrev pub decreases-loop-start : goal.decreases-loop-start
decreases-loop-start l = l.to - l.start
