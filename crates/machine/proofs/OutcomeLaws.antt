-- A step that is an event's: the state after it, and what it leaves.
use Rattle.machine.proofs.Words.{◌≡◌, ℕ, refl, sym, ap, ◌∙◌, true, List, identifier, State, Counts, zero_counts, Room, begin, whole, counts_stay, settled, state_after}
use Rattle.postcard.specs.Message.{Event}
use Rattle.protocol.proofs.WholeKept.{kept-handle}
use Rattle.decide.proofs.StateAfterLaws.{decide-state}
use Rattle.steps.specs.Calls.{rooms_of}
use Rattle.steps.specs.declared.call.Call.{Call}
use Rattle.machine.specs.Kinds.Meaning.{step_state, counted_for, Means}
use Rattle.machine.specs.declared.kinds.Step.{Step}
use Rattle.machine.specs.Decided.{size_fits, event_plan}
use Rattle.machine.specs.Steps.{after_event, Keeps}
use Rattle.machine.specs.Outcomes.{step_plan}
use Rattle.machine.proofs.StepLaws.{settled-rooms}

-- a step that is an event's
module _ (call : Call) (r : Step) (s : State) (e : Event) (means : Means call.instant.0 s r e) where
  pub state-event : state_after identifier (rooms_of call s) call.instant.0 e s ≡ after_event call r s
  state-event = means.state (rooms_of call s) ∙ ap (λ (rooms : List Room). step_state rooms call.instant.0 r (settled call.instant.0 s)) (sym (settled-rooms call.instant.0 s call.peer call.rooms.now))

  pub keeps-event : whole s ≡ true → Keeps s (after_event call r s)
  keeps-event w =
      let same = sym (decide-state identifier call.instant.0 e s zero_counts (rooms_of call s) w ∙ state-event) in
      let kept = kept-handle identifier call.instant.0 e (begin s zero_counts (rooms_of call s)) in
      record { limits = ap (λ (x : State). x.limits) same ∙ kept.limits; settings = ap (λ (x : State). x.settings) same ∙ kept.settings }

  -- what is left of the event is left of the step
  pub step-planned : (size : ℕ) (c : Counts) → size_fits s.settings.max_message_size size e ≡ true → counts_stay e c ≡ true → step_plan call r s (counted_for e c) ≡ event_plan identifier (rooms_of call s) call.instant.0 size e s c
  unfolding event_plan step_plan
  step-planned size c fits' stay = sym (rw (fits', stay, means.far, means.actions (rooms_of call s), state-event, means.counts c) refl)
