-- `few_each`: a count for each number of the first i, at most 256.
use Rattle.whole.proofs.RecordLaws.{Counted}
use Rattle.whole.proofs.tables.few_each.Given as goal

abbrev pub invariant-loop-i : goal.invariant-loop-i
invariant-loop-i l = Counted l.numbers l.counts l.i
