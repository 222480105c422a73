-- `lazy_push` meets its contract.
use Rattle.steps.proofs.Words.{◌∙◌, sym, ap, ◌<◌, length, arith, id_of, State, state, same-state}
use Rattle.steps.proofs.LazyPushLaws.{lazy-take, lazy-skip, lazy-room, lazy-end}
use Rattle.steps.proofs.lazy_push.lazy_push.Goals as goal
use Rattle.steps.proofs.lazy_push.lazy_push.Goals.{then-is_lazy_target, else-is_lazy_target}

pub push_note-requires-clause-room : goal.push_note-requires-clause-room
push_note-requires-clause-room c =
    lazy-room (id_of c.args.id) c.args.round.0 c.args.sender _ _ _ c.loop-link.invariant.state (omega (arith, c.loop-link-test.true, c.link_count-link-end.ensures ∙ ap (λ (s : State). length s.links) (same-state c.args.panel.now c.view.result c.view.ensures.head c.view.ensures.block))) (sym c.is_lazy_target.ensures ∙ c.if-is_lazy_target.true) c.requires

pub loop-link-preserved : goal.loop-link-preserved
loop-link-preserved c =
    let b : c.loop-link.link < length (state c.args.panel.now).links = omega (arith, c.loop-link-test.true, c.link_count-link-end.ensures ∙ ap (λ (s : State). length s.links) (same-state c.args.panel.now c.view.result c.view.ensures.head c.view.ensures.block)) in
    elim c.if-is_lazy_target.branch [
      | then-is_lazy_target w ↦ rw w.panel-is (record {
        state = w.push_note.ensures.state ∙ lazy-take (id_of c.args.id) c.args.round.0 c.args.sender _ _ _ c.loop-link.invariant.state b (sym c.is_lazy_target.ensures ∙ w.if-is_lazy_target.true);
        loan = w.push_note.ensures.loan ∙ c.loop-link.invariant.loan;
      })
      | else-is_lazy_target w ↦ rw w.panel-is (record {
        state = lazy-skip (id_of c.args.id) c.args.round.0 c.args.sender _ _ _ c.loop-link.invariant.state b (sym c.is_lazy_target.ensures ∙ w.if-is_lazy_target.false);
        loan = c.loop-link.invariant.loan;
      })
    ]

pub returns : goal.returns
returns c = record {
  state = c.flag_dispatch.ensures.state ∙ lazy-end (id_of c.args.id) c.args.round.0 c.args.sender _ _ _ c.loop-link.invariant.state (omega (arith, c.loop-link-test.false, c.link_count-link-end.ensures ∙ ap (λ (s : State). length s.links) (same-state c.args.panel.now c.view.result c.view.ensures.head c.view.ensures.block)));
  loan = c.flag_dispatch.ensures.loan ∙ c.loop-link.invariant.loan;
}
