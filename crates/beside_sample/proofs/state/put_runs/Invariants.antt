-- `put_runs`: the place is within the sample, and the slice keeps its length. The measure is the number of runs left.
use Rattle.std.proofs.Common.{◌≡◌, ◌≤◌, length}
use Rattle.beside_sample.proofs.state.put_runs.Given as goal

abbrev pub invariant-loop-left : goal.invariant-loop-left
invariant-loop-left l = (l.next ≤ length l.b) × (length l.other ≡ length l.initial.other)

abbrev pub decreases-loop-left : goal.decreases-loop-left
decreases-loop-left l = l.left
