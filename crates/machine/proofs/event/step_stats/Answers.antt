-- `step_stats` meets its contract: questions 12 and 13 are answered by what the step tells of itself.
use Rattle.machine.proofs.Words.{Option, Some, None, ◌≡◌, refl, sym, ◌∙◌, false, Counts, shown}
use Rattle.whole.specs.Stats.{counts_of}
use Rattle.machine.specs.Decided.{unless}
use Rattle.machine.specs.Kinds.Meaning.{step_far, step_counts}
use Rattle.machine.specs.Limit.{state_limit}
use Rattle.machine.specs.Outcomes.{step_plan}
use Rattle.machine.specs.Steps.{after_event, event_bytes}
use Rattle.machine.specs.declared.limit.Limit.{Limit}
use Rattle.machine.proofs.LimitLaws.{none-fits}
use Rattle.machine.proofs.event.step_stats.Goals as goal
use Rattle.machine.proofs.event.step_stats.Goals.{After-step_limit}

near : (c : After-step_limit) → step_far c.args.step.now ≡ false
near c = sym c.is_far.ensures ∙ c.if-is_far.false

-- (13)
limit_is : (c : After-step_limit) (o : Option Limit) → c.step_limit.result ≡ o → o ≡ state_limit (after_event c.args.call.now c.args.step.now (shown c.args.view.now))
limit_is c o e = sym e ∙ c.step_limit.ensures

planned : (c : After-step_limit) (o : Option Limit) (n : Counts) → c.step_limit.result ≡ o → n ≡ step_counts c.args.step.now (counts_of c.args.counted) →
    unless o (record { state = after_event c.args.call.now c.args.step.now (shown c.args.view.now); counts = n; bytes = event_bytes c.args.call.now c.args.step.now (shown c.args.view.now) })
    ≡ step_plan c.args.call.now c.args.step.now (shown c.args.view.now) (counts_of c.args.counted)
unfolding step_plan
planned c o n e counted = rw (counted, near c, ← limit_is c o e) refl

pub returns-then-is_far-clause-stopped : goal.returns-then-is_far-clause-stopped
unfolding step_plan
returns-then-is_far-clause-stopped c = rw (sym c.is_far.ensures ∙ c.if-is_far.true) refl

pub returns-in-Some-clause-stopped : goal.returns-in-Some-clause-stopped
returns-in-Some-clause-stopped c = planned (goal.at.returns-in-Some-clause-stopped c).After-step_limit (Some c.in-Some.limit) _ c.in-Some.is refl

pub returns-clause-stats : goal.returns-clause-stats
returns-clause-stats c = planned (goal.at.returns-clause-stats c).After-step_limit None _ c.in_default.is c.counts_after.ensures

pub returns-clause-possible : goal.returns-clause-possible
returns-clause-possible c =
    let l = (goal.at.returns-clause-possible c).After-step_limit in
    record {
      doable = (
        record {
          allowed = record { rest = c.requires.named.rest; fits = none-fits _ (limit_is l None c.in_default.is) };
          held = c.requires.named.held;
          decided = c.requires.named.decided;
          near = near l;
          early = c.requires.early;
        },
        c.requires.sender,
      );
      keeps = c.requires.keeps;
    }
