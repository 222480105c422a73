-- `numbers_below`: `bad` is 0 just if the first i numbers are below it.
use Rattle.std.proofs.Common.{◌≡◌, eqb, take}
use Rattle.whole.specs.Held.{all_below}
use Rattle.whole.proofs.tables.numbers_below.Given as goal

abbrev pub invariant-loop-i : goal.invariant-loop-i
invariant-loop-i l = eqb l.bad 0 ≡ all_below l.link_count (take l.i l.numbers)
