-- `message_rows_to_decide`: by the message.
use Rattle.machine.proofs.Words.{sym, subst, shown}
use Rattle.wire.specs.declared.reader.message.Message.{Message}
use Rattle.wire.specs.declared.reader.event.Event.TheVariants as read
use Rattle.machine.specs.Kinds.Meaning.{ToDecide}
use Rattle.machine.proofs.kinds.message_rows_to_decide.Goals as goal

pub returns-in-IHave : goal.returns-in-IHave
returns-in-IHave c size =
    subst (λ (m : Message). ToDecide c.args.call.now (read.Received c.args.sender size m) (shown c.args.view.now) c.entries_to_decide.result) (sym c.in-IHave.is) (c.entries_to_decide.ensures size)
