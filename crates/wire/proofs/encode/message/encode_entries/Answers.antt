-- `encode_entries`: one announcement after the other, each as it was read.
use Rattle.wire.proofs.EncodeLaws.IhavesLaws.{entry-same, entries-done}
use Rattle.wire.proofs.encode.message.encode_entries.Goals as goal

pub loop-ihave-preserved : goal.loop-ihave-preserved
loop-ihave-preserved g c = record { same = entry-same c.in-Some.ensures.steps _ _ _ c.loop-ihave.invariant.same c.encode.ensures }

pub returns : goal.returns
returns g c = entries-done _ _ _ c.in-None.ensures.steps.0 c.loop-ihave.invariant.same
