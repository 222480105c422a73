-- `fill` is safe and ends: two digits a turn.
use Rattle.std.proofs.Common.{◌≤◌, ◌-◌, ◌≡◌, length}
use Rattle.postcard_vectors.proofs.fill.Given as goal

abbrev pub invariant-loop-n : goal.invariant-loop-n
invariant-loop-n l = (l.i ≤ length l.digits) × (l.n ≤ length l.event) × (length l.event ≡ length l.initial.event)

abbrev pub decreases-loop-n : goal.decreases-loop-n
decreases-loop-n l = length l.event - l.n
