-- `event_plan` meets its contract: by the event.
use Rattle.machine.proofs.Words.{◌≡◌, ℕ, ap, sym, ◌∙◌, refl, arith, true, subst, IfSome, Option, is_some, Result, identifier, Received, Broadcast, message_value, event_value, State, Counts, shown, settled}
use Rattle.whole.specs.declared.stats.Stats.{Stats}
use Rattle.postcard.specs.Message.{Event}
use Rattle.wire.specs.declared.reader.event.Event.{Event as Read}
use Rattle.protocol.specs.Answer.{counts_stay}
use Rattle.steps.specs.Calls.{rooms_of}
use Rattle.whole.specs.Stats.{counts_of}
use Rattle.machine.specs.Core.{event_size, event_peer, Shortened, Answerable, is_payload, counted_as}
use Rattle.machine.specs.Decided.{size_fits, Planned, event_plan}
use Rattle.machine.specs.Kinds.Meaning.{RowsFor, StepDecided, counted_for, Means, SenderIs, peer_of}
use Rattle.machine.specs.Steps.{Askable}
use Rattle.machine.specs.Outcomes.{step_plan, plan_of}
use Rattle.machine.specs.declared.event.Stop.{Stop}
use Rattle.machine.specs.declared.kinds.Step.{Step}
use Rattle.machine.proofs.OutcomeLaws.{keeps-event, step-planned}
use Rattle.machine.proofs.RunLaws.{shown-whole, max-of, message-fits, message-10, message-11, message-stays, message-counted, down_fits, down-keeps, down-planned}
use Rattle.machine.proofs.event.event_plan.Goals as goal
use Rattle.machine.proofs.event.event_plan.Goals.{Start}

abbrev st : Start → State
st s = shown s.args.view.now

abbrev meant : Start → Read → Result Planned Stop
meant s e = event_plan identifier (rooms_of s.args.call.now (st s)) s.args.call.now.instant.0 (event_size e) (event_value e) (st s) (counts_of s.args.counts)

-- what the match tells of the event
as_event : (s : Start) {e : Read} → s.args.event ≡ e → meant s e ≡ meant s s.args.event
as_event s e = ap (meant s) (sym e)

-- what its step is asked with
askable : (s : Start) (r : Step) (e : Event) → peer_of e ≡ event_peer s.args.event → Means s.args.call.now.instant.0 (st s) r e → StepDecided s.args.call.now r (settled s.args.call.now.instant.0 (st s)) → Askable s.args.call.now r (st s)
askable s r e p m d = record {
  named = record { rest = s.requires.event.rest; held = m.held; decided = d };
  sender = subst (λ (n : ℕ). SenderIs n r) (p ∙ sym s.requires.event.peer) m.sender;
  early = s.requires.event.early;
  keeps = keeps-event s.args.call.now r (st s) e m (shown-whole s.args.view.now s.requires.event.rest);
}

-- of a step that is an event's, with the counts once the event is counted
stepped : (s : Start) (r : Step) (e : Event) (size : ℕ) (n : Counts) (x : Result Planned Stop) → Means s.args.call.now.instant.0 (st s) r e → size_fits (st s).settings.max_message_size size e ≡ true → counts_stay e (counts_of s.args.counts) ≡ true →
    n ≡ counted_for e (counts_of s.args.counts) → x ≡ step_plan s.args.call.now r (st s) n →
    x ≡ event_plan identifier (rooms_of s.args.call.now (st s)) s.args.call.now.instant.0 size e (st s) (counts_of s.args.counts)
stepped s r e size n x m fit stay counted q =
    q ∙ ap (step_plan s.args.call.now r (st s)) counted ∙ step-planned s.args.call.now r (st s) e m size (counts_of s.args.counts) fit stay

pub returns-then-view-size-clause-plan : goal.returns-then-view-size-clause-plan
returns-then-view-size-clause-plan c =
    let a = c.args in
    let s = shown a.view.now in
    message-10 (rooms_of a.call.now s) a.call.now.instant.0 c.in-Received.peer c.in-Received.size c.in-Received.message s (counts_of a.counts) (omega (arith, max-of a.view.now, c.if-view-size.true))
    ∙ as_event (goal.at.returns-then-view-size-clause-plan c).Start c.in-Received.is

pub returns-in_default-clause-plan : goal.returns-in_default-clause-plan
returns-in_default-clause-plan c =
    let a = c.args in
    let s = shown a.view.now in
    message-11 (rooms_of a.call.now s) a.call.now.instant.0 c.in-Received.peer c.in-Received.size c.in-Received.message s (counts_of a.counts) (omega (arith, max-of a.view.now, c.if-view-size.false))
    (sym c.count_message.ensures.stay ∙ ap (λ (o : Option Stats). is_some o) c.in_default.is)
    ∙ as_event (goal.at.returns-in_default-clause-plan c).Start c.in-Received.is

pub message_step-step-requires : goal.message_step-step-requires
message_step-step-requires c =
    let shortened = subst Shortened c.in-Received.is c.requires.event.shortened in
    record {
      rest = (c.requires.event.rest, omega (arith, shortened, max-of c.args.view.now, c.if-view-size.false));
      rows = subst (λ (e : Read). RowsFor c.args.call.now e (settled c.args.call.now.instant.0 (shown c.args.view.now)) c.args.rows) c.in-Received.is c.requires.rows;
    }

pub step_plan-requires : goal.step_plan-requires
step_plan-requires c = askable (goal.at.step_plan-requires c).Start c.message_step-step.result (Received c.in-Received.peer (message_value c.in-Received.message)) (sym (ap event_peer c.in-Received.is)) c.message_step-step.ensures.means c.message_step-step.ensures.decided

pub step_plan-requires-in-Broadcast : goal.step_plan-requires-in-Broadcast
step_plan-requires-in-Broadcast c =
    askable (goal.at.step_plan-requires-in-Broadcast c).Start c.broadcast_step-step.result (Broadcast c.in-Broadcast.content.now) (sym (ap event_peer c.in-Broadcast.is)) c.broadcast_step-step.ensures.means c.broadcast_step-step.ensures.decided

pub returns-in-Some-clause-plan : goal.returns-in-Some-clause-plan
returns-in-Some-clause-plan c =
    let a = c.args in
    let s = shown a.view.now in
    let m = c.in-Received.message in
    let there = subst (λ (o : Option Stats). IfSome o (λ n. counts_of n ≡ counted_as (is_payload m) (counts_of a.counts))) c.in-Some.is c.count_message.ensures.counted in
    stepped (goal.at.returns-in-Some-clause-plan c).Start c.message_step-step.result (Received c.in-Received.peer (message_value m)) c.in-Received.size (counts_of c.in-Some.counted) (plan_of a.call.now s c.step_plan.result)
    c.message_step-step.ensures.means (message-fits s c.in-Received.peer c.in-Received.size (message_value m) (omega (arith, max-of a.view.now, c.if-view-size.false)))
    (message-stays (rooms_of a.call.now s) a.call.now.instant.0 c.in-Received.peer c.in-Received.size m s (counts_of a.counts) true (sym c.count_message.ensures.stay ∙ ap (λ (o : Option Stats). is_some o) c.in-Some.is))
    (there ∙ message-counted c.in-Received.peer m (counts_of a.counts))
    c.step_plan.ensures.plan
    ∙ as_event (goal.at.returns-in-Some-clause-plan c).Start c.in-Received.is

pub returns-in-Broadcast-clause-plan : goal.returns-in-Broadcast-clause-plan
unfolding size_fits counts_stay counted_for
returns-in-Broadcast-clause-plan c =
    let a = c.args in
    stepped (goal.at.returns-in-Broadcast-clause-plan c).Start c.broadcast_step-step.result (Broadcast c.in-Broadcast.content.now) 0 (counts_of a.counts) (plan_of a.call.now (shown a.view.now) c.step_plan-in-Broadcast.result)
    c.broadcast_step-step.ensures.means refl refl refl c.step_plan-in-Broadcast.ensures.plan
    ∙ as_event (goal.at.returns-in-Broadcast-clause-plan c).Start c.in-Broadcast.is

-- what the match tells of a timer
timer_event : (t : Start) {e : Read} → t.args.event ≡ e → Answerable t.args.call.now e (st t)
timer_event t e = subst (λ (x : Read). Answerable t.args.call.now x (st t)) e t.requires.event

pub timer_plan-requires-clause-event : goal.timer_plan-requires-clause-event
timer_plan-requires-clause-event c = timer_event (goal.at.timer_plan-requires-clause-event c).Start c.in-Timer.is

pub timer_plan-requires-clause-rows : goal.timer_plan-requires-clause-rows
timer_plan-requires-clause-rows c = subst (λ (e : Read). RowsFor c.args.call.now e (settled c.args.call.now.instant.0 (shown c.args.view.now)) c.args.rows) c.in-Timer.is c.requires.rows

pub returns-in-Timer-clause-plan : goal.returns-in-Timer-clause-plan
returns-in-Timer-clause-plan c = c.timer_plan.ensures.plan ∙ as_event (goal.at.returns-in-Timer-clause-plan c).Start c.in-Timer.is

pub returns-in-Up-clause-plan : goal.returns-in-Up-clause-plan
returns-in-Up-clause-plan c = c.up_plan.ensures.plan ∙ as_event (goal.at.returns-in-Up-clause-plan c).Start c.in-Up.is

pub returns-in-Down-clause-plan : goal.returns-in-Down-clause-plan
returns-in-Down-clause-plan c =
    let a = c.args in
    let s = shown a.view.now in
    down-planned (rooms_of a.call.now s) a.call.now.instant.0 c.in-Down.peer s (counts_of a.counts) (down_fits c.in-Down.peer a.view.now c.requires.event.rest)
    ∙ as_event (goal.at.returns-in-Down-clause-plan c).Start c.in-Down.is

pub returns-in-Down-clause-possible : goal.returns-in-Down-clause-possible
returns-in-Down-clause-possible c = record {
  doable = record { rest = c.requires.event.rest; fits = down_fits c.in-Down.peer c.args.view.now c.requires.event.rest };
  keeps = down-keeps c.in-Down.peer (shown c.args.view.now);
}
