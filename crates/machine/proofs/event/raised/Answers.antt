-- `raised`: by the largest so far.
use Rattle.whole.specs.Stats.{counts_of}
use Rattle.machine.proofs.RunLaws.{raise-not, raise-up}
use Rattle.machine.proofs.event.raised.Goals as goal

pub returns-then-round-counts : goal.returns-then-round-counts
returns-then-round-counts c = raise-not c.args.round.0 (counts_of c.args.counts) c.if-round-counts.true

pub returns : goal.returns
returns c = raise-up c.args.round.0 (counts_of c.args.counts) c.if-round-counts.false
