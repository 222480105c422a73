use Rattle.panel.proofs.Streams.{Paced}
use Rattle.panel.proofs.stream.run.Given as goal

-- what was taken, and what was written of it so far
abbrev pub invariant-records : goal.invariant-records
invariant-records g l = Paced l.counter l.panel.past.list l.unread (g.R.Read.remaining l.fn.input) (g.R.Read.remaining l.input) (g.W.Write.contents l.fn.output) (g.W.Write.contents l.output)
