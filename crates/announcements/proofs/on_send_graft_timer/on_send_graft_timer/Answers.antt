-- `on_send_graft_timer` meets its contract: the mark goes, and unless the message is received its first announcer is asked.
use Rattle.announcements.proofs.Words.{true, false, sym, ap, ◌∙◌, ◌≡◌, Bool, [], subst, id_of, holds, State, fits, state, AtRest, same-state}
use Rattle.protocol.specs.Gossips.{announcers}
use Rattle.announcements.specs.SendGraft.Asks.{asked_first}
use Rattle.announcements.proofs.OnSendGraftTimerLaws.{unmarked-rest, sent-received, sent-asked, sent-nobody}
use Rattle.announcements.proofs.on_send_graft_timer.on_send_graft_timer.Goals as goal
use Rattle.announcements.proofs.on_send_graft_timer.on_send_graft_timer.Goals.{After-forget_timer, After-is_received}

-- what stands once the mark is gone
unmarked : (c : After-forget_timer) → AtRest (state c.forget_timer.new.self)
unmarked c = subst AtRest (sym c.forget_timer.ensures.state) (unmarked-rest (id_of c.args.id) (state c.args.panel.now) c.requires.step.rest)

-- whether the message is received
received : (c : After-is_received) → (b : Bool) → c.is_received.result ≡ b → holds (id_of c.args.id) (state c.args.panel.now).received ≡ b
received c b e =
    sym (c.is_received.ensures
    ∙ ap (λ (s : State). holds (id_of c.args.id) s.received) (same-state c.forget_timer.new.self c.view.result c.view.ensures.head c.view.ensures.block ∙ c.forget_timer.ensures.state))
    ∙ e

pub returns-then-is_received : goal.returns-then-is_received
returns-then-is_received c = record {
  state = c.forget_timer.ensures.state
      ∙ sent-received c.args.call.now.instant.0 (id_of c.args.id) (state c.args.panel.now) (received (goal.at.returns-then-is_received c).After-is_received true c.if-is_received.true);
  loan = c.forget_timer.ensures.loan;
}

pub ask_first-requires-clause-step : goal.ask_first-requires-clause-step
ask_first-requires-clause-step c =
    let now = c.args.call.now.instant.0 in
    record {
      rest = unmarked (goal.at.ask_first-requires-clause-step c).After-forget_timer;
      fits = ap (λ (s : State). fits (asked_first now (id_of c.args.id) s)) c.forget_timer.ensures.state
          ∙ ap fits (sent-asked now (id_of c.args.id) (state c.args.panel.now) (received (goal.at.ask_first-requires-clause-step c).After-is_received false c.if-is_received.false))
          ∙ c.requires.step.fits;
    }

pub returns-in-Some : goal.returns-in-Some
returns-in-Some c =
    let now = c.args.call.now.instant.0 in
    record {
      state = c.ask_first.ensures.state
          ∙ ap (asked_first now (id_of c.args.id)) c.forget_timer.ensures.state
          ∙ sent-asked now (id_of c.args.id) (state c.args.panel.now) (received (goal.at.returns-in-Some c).After-is_received false c.if-is_received.false);
      loan = c.ask_first.ensures.loan ∙ c.forget_timer.ensures.loan;
    }

pub returns-in_default : goal.returns-in_default
returns-in_default c =
    let i = id_of c.args.id in
    record {
      state = c.forget_timer.ensures.state
          ∙ sent-nobody c.args.call.now.instant.0 i (state c.args.panel.now) (received (goal.at.returns-in_default c).After-is_received false c.if-is_received.false)
          (subst (λ (s : State). announcers i s ≡ []) (same-state c.forget_timer.new.self c.view-2.result c.view-2.ensures.head c.view-2.ensures.block ∙ c.forget_timer.ensures.state) c.in_default.ensures);
      loan = c.forget_timer.ensures.loan;
    }
