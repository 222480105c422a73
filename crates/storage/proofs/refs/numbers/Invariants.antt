-- `numbers`: a flag stands for each number of the first i.
use Rattle.storage.proofs.RefsLaws.Flags.{Seen}
use Rattle.storage.proofs.refs.numbers.Given as goal

abbrev pub invariant-loop-i : goal.invariant-loop-i
invariant-loop-i l = Seen l.m l.bytes l.seen l.i
