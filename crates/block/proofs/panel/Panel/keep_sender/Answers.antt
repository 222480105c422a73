-- The first copy stays.
use Rattle.block.proofs.Words.{Some, ap, ◌∙◌, State}
use Rattle.block.specs.Panels.{state}
use Rattle.block.specs.Caches.GraftSteps.{grafts_at, senders_to}
use Rattle.block.proofs.PanelLaws.{same-state}
use Rattle.block.proofs.panel.Panel.keep_sender.Goals as goal

pub returns : goal.returns
returns c =
    let a = c.args in
    let p = a.self.now in
    let first = c.first_copy-first.ensures ∙ ap (λ (s : State). (grafts_at s a.entry).first) (same-state p c.view.result c.view.ensures.head c.view.ensures.block) in
    record { state = c.set_senders.ensures.state ∙ (λ z. senders_to a.entry (first z, Some a.peer) (state p)); loan = c.set_senders.ensures.loan }
