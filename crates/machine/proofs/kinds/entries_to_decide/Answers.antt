-- `entries_to_decide`: by the sender, the length, and whether every identifier is received.
use Rattle.machine.proofs.Words.{ℕ, ap, sym, ◌∙◌, Option, is_some, shown}
use Rattle.wire.specs.declared.reader.message.Message.TheVariants as messages
use Rattle.steps.proofs.NeighborLaws.{found-neighbour}
use Rattle.machine.proofs.KindsLaws.RowsLaws.{strangers-entries}
use Rattle.machine.proofs.kinds.entries_to_decide.Goals as goal

pub returns-in_default : goal.returns-in_default
returns-in_default c size =
    let a = c.args in
    let s = shown a.view.now in
    strangers-entries a.call.now a.sender size (messages.IHave a.ihaves) s
    (sym (found-neighbour s a.sender c.find_link.result c.requires.consistent.core.links_up c.find_link.ensures) ∙ ap (λ (o : Option ℕ). is_some o) c.in_default.is)

pub returns-then-all_received : goal.returns-then-all_received
returns-then-all_received c size near few = sym c.all_received.ensures ∙ c.if-all_received.true
