-- `on_dispatch_timer` meets its contract.
use Rattle.announcements.proofs.Words.{ap, sym, ◌∙◌, false, [], List, State, Note, with_queue, with_dispatch_scheduled, recorded_state, state}
use Rattle.announcements.proofs.OnDispatchLaws.StateLaws.{state-after}
use Rattle.announcements.proofs.on_dispatch_timer.on_dispatch_timer.Goals as goal

pub returns : goal.returns
returns c call noted =
    let s = state c.args.panel.now in
    record {
      state = c.unflag_dispatch.ensures.state
          ∙ ap (with_dispatch_scheduled false) c.clear_queue.ensures.state
          ∙ ap (λ (u : State). with_dispatch_scheduled false (with_queue [] u)) c.note_rows.ensures.state
          ∙ ap (λ (ds : List Note). with_dispatch_scheduled false (with_queue [] (recorded_state ds s))) (sym noted.noted)
          ∙ sym (state-after call s);
      loan = c.unflag_dispatch.ensures.loan ∙ c.clear_queue.ensures.loan ∙ c.note_rows.ensures.loan;
    }
