-- `zeros`: no byte from `from` to i is other than 0.
use Rattle.std.proofs.Common.{◌≤◌}
use Rattle.whole.specs.States.Calls.{Zeros}
use Rattle.whole.proofs.states.zeros.Given as goal

abbrev pub invariant-loop-i : goal.invariant-loop-i
invariant-loop-i l = (l.from ≤ l.i) × (l.i ≤ l.to) × Zeros l.from l.i l.area
