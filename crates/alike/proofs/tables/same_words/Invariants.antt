-- `tables::same_words`: the first i bytes agree. The measure is what is left.
use Rattle.std.proofs.Common.{◌-◌, ◌≤◌, length}
use Rattle.alike.specs.Rows.{SameUpTo}
use Rattle.alike.proofs.tables.same_words.Given as goal

abbrev pub invariant-loop-i : goal.invariant-loop-i
invariant-loop-i l = (l.i ≤ length l.a) × SameUpTo l.i l.a l.b

abbrev pub decreases-loop-i : goal.decreases-loop-i
decreases-loop-i l = length l.a - l.i
