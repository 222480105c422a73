-- `timer_rows_to_decide`: by the timer.
use Rattle.machine.proofs.Words.{sym, subst, shown}
use Rattle.postcard.specs.declared.message.Timer.{Timer}
use Rattle.wire.specs.declared.reader.event.Event.TheVariants as read
use Rattle.machine.specs.Kinds.Meaning.{ToDecide}
use Rattle.machine.proofs.kinds.timer_rows_to_decide.Goals as goal

pub returns-in-AnnounceDropped : goal.returns-in-AnnounceDropped
returns-in-AnnounceDropped c =
    subst (λ (t : Timer). ToDecide c.args.call.now (read.Timer t) (shown c.args.view.now) c.record_rows_to_decide.result) (sym c.in-AnnounceDropped.is) (c.record_rows_to_decide.ensures c.args.call.now)
