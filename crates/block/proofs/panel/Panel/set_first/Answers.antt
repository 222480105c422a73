-- The peer that is kept stays.
use Rattle.block.proofs.Words.{Some, ap, ◌∙◌, State}
use Rattle.block.specs.MissingSteps.{hop}
use Rattle.block.specs.Panels.{state}
use Rattle.block.specs.Caches.GraftSteps.{grafts_at, senders_to}
use Rattle.block.proofs.PanelLaws.{same-state}
use Rattle.block.proofs.panel.Panel.set_first.Goals as goal

pub returns : goal.returns
returns c =
    let a = c.args in
    let p = a.self.now in
    let kept = c.kept_sender-kept.ensures ∙ ap (λ (s : State). (grafts_at s a.entry).kept) (same-state p c.view.result c.view.ensures.head c.view.ensures.block) in
    record { state = c.set_senders.ensures.state ∙ (λ z. senders_to a.entry (Some (hop a.sender a.round.0), kept z) (state p)); loan = c.set_senders.ensures.loan }
