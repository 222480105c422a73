-- `lower::first_unannounced`: the first k messages have announcers.
use Rattle.block.specs.Neighbours.Lowered.{Announced}
use Rattle.block.proofs.renumber.lower.first_unannounced.Given as goal

abbrev pub invariant-loop-k : goal.invariant-loop-k
invariant-loop-k l = Announced l.k l.bytes
