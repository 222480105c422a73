-- `zero_words`: no byte from `from` to i is other than 0. The measure is what is left.
use Rattle.std.proofs.Common.{◌-◌, ◌≤◌}
use Rattle.whole.specs.States.Calls.{Zeros}
use Rattle.whole.proofs.states.zero_words.Given as goal

abbrev pub invariant-loop-i : goal.invariant-loop-i
invariant-loop-i l = (l.from ≤ l.i) × (l.i ≤ l.to) × Zeros l.from l.i l.area

abbrev pub decreases-loop-i : goal.decreases-loop-i
decreases-loop-i l = l.to - l.i
