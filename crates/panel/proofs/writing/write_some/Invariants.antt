use Rattle.std.specs.Io.KnownBytes.{Keeps}
use Rattle.panel.proofs.writing.write_some.Given as goal

-- nothing is written while it is interrupted
abbrev pub invariant-tries : goal.invariant-tries
invariant-tries g l = Keeps (g.W.Write.contents l.fn.output) (g.W.Write.contents l.output)
