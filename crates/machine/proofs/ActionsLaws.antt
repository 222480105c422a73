-- The bytes of a call: those of a first event, then those of the step, of the state that a first event leaves.
-- Assumes nothing.
use Rattle.machine.proofs.Words.{◌≡◌, ℕ, sym, ap, ◌∙◌, List, [], ◌++◌, concat_map, action_bytes, State, Room, settled, settled_actions}
use Rattle.wire.specs.Encode.Intake.{Intake, after}
use Rattle.wire.proofs.EncodeLaws.IntakeLaws.{after_append, after_nil}
use Rattle.steps.specs.Calls.{rooms_of}
use Rattle.steps.specs.declared.call.Call.{Call}
use Rattle.steps.proofs.ActionLaws.{actions-then}
use Rattle.machine.specs.Kinds.Meaning.{step_actions}
use Rattle.machine.specs.Steps.{event_bytes}
use Rattle.machine.specs.declared.kinds.Step.{Step}
use Rattle.machine.proofs.StepLaws.{settled-rooms}

-- the actions of a step as bytes, of the state that a first event leaves
abbrev pub step_bytes : Call → Step → State → List ℕ
step_bytes call r t = concat_map action_bytes (step_actions (rooms_of call t) call.instant.0 r t)

-- a first event's
abbrev pub first_bytes : ℕ → State → List ℕ
first_bytes now s = concat_map action_bytes (settled_actions now s)

module _ (call : Call) (r : Step) (s : State) where
  pub both-bytes : event_bytes call r s ≡ first_bytes call.instant.0 s ++ step_bytes call r (settled call.instant.0 s)
  both-bytes =
      actions-then (settled_actions call.instant.0 s) (step_actions (rooms_of call s) call.instant.0 r (settled call.instant.0 s))
      ∙ ap (λ (rooms : List Room). first_bytes call.instant.0 s ++ concat_map action_bytes (step_actions rooms call.instant.0 r (settled call.instant.0 s))) (sym (settled-rooms call.instant.0 s call.peer call.rooms.now))

  pub step-done : (h g k : Intake) (bs : List ℕ) → step_bytes call r (settled call.instant.0 s) ≡ bs → g ≡ after (first_bytes call.instant.0 s) h → k ≡ after bs g → k ≡ after (event_bytes call r s) h
  step-done h g k bs e q p =
      p ∙ ap (λ (x : Intake). after bs x) q ∙ ap (λ (l : List ℕ). after l (after (first_bytes call.instant.0 s) h)) (sym e)
      ∙ after_append (first_bytes call.instant.0 s) (step_bytes call r (settled call.instant.0 s)) h ∙ ap (λ (l : List ℕ). after l h) (sym both-bytes)

  pub none-done : (h g : Intake) → step_bytes call r (settled call.instant.0 s) ≡ [] → g ≡ after (first_bytes call.instant.0 s) h → g ≡ after (event_bytes call r s) h
  none-done h g e q = step-done h g g [] e q (sym (after_nil g))
