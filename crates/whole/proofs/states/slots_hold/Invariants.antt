-- `slots_hold`: the first i names differ, and the first i blocks are whole.
use Rattle.std.proofs.Common.{◌≤◌}
use Rattle.whole.specs.States.Calls.{SlotsHold}
use Rattle.whole.proofs.states.slots_hold.Given as goal

abbrev pub invariant-loop-i : goal.invariant-loop-i
invariant-loop-i l = (l.i ≤ l.k) × SlotsHold l.n l.i l.area
