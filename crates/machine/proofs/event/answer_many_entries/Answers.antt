-- `answer_many_entries`: the announcements are as few as the lists have room for.
use Rattle.machine.proofs.Words.{arith, sym, subst, State}
use Rattle.block.specs.Panels.{AtRest}
use Rattle.block.proofs.PanelLaws.{same-state}
use Rattle.machine.proofs.event.answer_many_entries.Goals as goal

pub decide_ihave-decision-requires : goal.decide_ihave-decision-requires
decide_ihave-decision-requires c = (
  omega arith,
  (
    omega arith,
    (
      subst (λ (s : State). AtRest s) (sym (same-state c.args.panel.now c.view-view.result c.view-view.ensures.head c.view-view.ensures.block)) c.requires.event.rest,
      ((c.announced-ihaves.ensures.few 124 c.requires.few, omega arith), (c.new-entries.ensures, c.new-order.ensures)),
    ),
  ),
)
