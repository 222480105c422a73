use Rattle.std.proofs.Common.{length}
use Rattle.panel.proofs.Written.{Fronts}
use Rattle.panel.proofs.writing.write_on.Given as goal

-- a front of the bytes is written, and the rest is still to be
abbrev pub invariant-writes : goal.invariant-writes
invariant-writes g l = Fronts (g.W.Write.contents l.fn.output) (g.W.Write.contents l.output) l.fn.bytes l.rest

abbrev pub decreases-writes : goal.decreases-writes
decreases-writes g l = length l.rest
