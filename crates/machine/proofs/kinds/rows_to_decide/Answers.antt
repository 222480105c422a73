-- `rows_to_decide`: by the event.
use Rattle.machine.proofs.Words.{sym, subst, shown}
use Rattle.wire.specs.declared.reader.event.Event.{Event}
use Rattle.machine.specs.Kinds.Meaning.{ToDecide}
use Rattle.machine.proofs.kinds.rows_to_decide.Goals as goal

pub returns-in-Received : goal.returns-in-Received
returns-in-Received c =
    subst (λ (e : Event). ToDecide c.args.call.now e (shown c.args.view.now) c.message_rows_to_decide.result) (sym c.in-Received.is) (c.message_rows_to_decide.ensures c.in-Received.size)
