-- `numbers_ascend`: the first i numbers are below it and ascend.
use Rattle.whole.proofs.NumberLaws.{Climb}
use Rattle.whole.proofs.tables.numbers_ascend.Given as goal

abbrev pub invariant-loop-i : goal.invariant-loop-i
invariant-loop-i l = Climb l.link_count l.numbers l.i l.least
