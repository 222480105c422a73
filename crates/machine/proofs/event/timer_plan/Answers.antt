-- `timer_plan` meets its contract: what is found of its step is found of the timer.
use Rattle.machine.proofs.Words.{ℕ, ◌∙◌, refl, sym, subst, Fired, timer_value, shown, settled}
use Rattle.protocol.specs.Answer.{counts_stay}
use Rattle.whole.specs.Stats.{counts_of}
use Rattle.machine.specs.Decided.{size_fits}
use Rattle.machine.specs.Kinds.Meaning.{Means, SenderIs, counted_for}
use Rattle.machine.proofs.OutcomeLaws.{keeps-event, step-planned}
use Rattle.machine.proofs.RunLaws.{shown-whole}
use Rattle.machine.proofs.event.timer_plan.Goals as goal
use Rattle.machine.proofs.event.timer_plan.Goals.{After-timer_step}

means : (c : After-timer_step) → Means c.args.call.now.instant.0 (shown c.args.view.now) c.timer_step.result (Fired (timer_value c.args.timer))
means c = c.timer_step.ensures.means c.args.call.now.instant.0 (shown c.args.view.now) c.requires.event.rest.consistent.core

pub step_plan-requires : goal.step_plan-requires
step_plan-requires c =
    let d = (goal.at.step_plan-requires c).After-timer_step in
    let k = c.args.call.now in
    let s = shown c.args.view.now in
    record {
      named = record { rest = c.requires.event.rest; held = (means d).held; decided = c.timer_step.ensures.decided k (settled k.instant.0 s) c.requires.rows };
      sender = subst (λ (n : ℕ). SenderIs n c.timer_step.result) (sym c.requires.event.peer) (means d).sender;
      early = c.requires.event.early;
      keeps = keeps-event k c.timer_step.result s (Fired (timer_value c.args.timer)) (means d) (shown-whole c.args.view.now c.requires.event.rest);
    }

pub returns-clause-plan : goal.returns-clause-plan
unfolding size_fits counts_stay counted_for
returns-clause-plan c =
    let d = (goal.at.returns-clause-plan c).After-timer_step in
    c.step_plan.ensures.plan ∙ step-planned c.args.call.now c.timer_step.result (shown c.args.view.now) (Fired (timer_value c.args.timer)) (means d) 0 (counts_of c.args.counts) refl refl
