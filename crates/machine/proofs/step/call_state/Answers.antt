-- `call_state` meets its contract: a first event's work, and the step behind it.
use Rattle.machine.proofs.Words.{◌≡◌, ap, ◌∙◌, settled, State, state}
use Rattle.machine.specs.Steps.{after_step}
use Rattle.machine.proofs.KindsLaws.MeaningLaws.{first-settled}
use Rattle.machine.proofs.StepLaws.{due-ready}
use Rattle.machine.proofs.step.call_state.Goals as goal
use Rattle.machine.proofs.step.call_state.Goals.{After-first_event}

-- a first event's work
now_settled : (c : After-first_event) → state c.first_event.new.panel ≡ settled c.args.call.now.instant.0 (state c.args.panel.now)
now_settled c = c.first_event.ensures.goes.state ∙ first-settled c.args.call.now.instant.0 (state c.args.panel.now) c.requires.allowed.rest.consistent.core

pub step_state-requires : goal.step_state-requires
step_state-requires c = due-ready c.args.call.now c.args.step.now (state c.args.panel.now) (state c.first_event.new.panel) c.requires (now_settled (goal.at.step_state-requires c).After-first_event)

pub returns : goal.returns
returns c = record {
  state = c.step_state.ensures.state ∙ ap (λ (s : State). after_step c.args.call.now c.args.step.now s) (now_settled (goal.at.returns c).After-first_event);
  loan = c.step_state.ensures.loan ∙ c.first_event.ensures.goes.loan;
}
