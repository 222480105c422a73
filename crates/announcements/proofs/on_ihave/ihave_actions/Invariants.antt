-- `ihave_actions`: after i entries the timers of the first i are written.
use Rattle.announcements.proofs.Words.{◌≡◌, take, shown, settled}
use Rattle.wire.specs.Encode.Intake.{after}
use Rattle.announcements.specs.OnIhave.{entries_value}
use Rattle.announcements.proofs.OnIhaveLaws.{scheduled}
use Rattle.announcements.proofs.on_ihave.ihave_actions.Given as goal

abbrev pub invariant-loop-entry : goal.invariant-loop-entry
invariant-loop-entry g l = g.S.Sink.intake l.out ≡ after (scheduled (settled l.call.instant.0 (shown l.view)) (entries_value (take l.entry-index l.decision.entries.now))) (g.S.Sink.intake l.initial.out)
