-- `up_plan` meets its contract: question 13 is answered by the numbers after it.
use Rattle.machine.proofs.Words.{◌≡◌, refl, sym, ◌∙◌, Option, Some, None, link_up, linked, shown}
use Rattle.steps.specs.Calls.{rooms_of}
use Rattle.whole.specs.Stats.{counts_of}
use Rattle.machine.specs.Limit.{state_limit}
use Rattle.machine.specs.declared.limit.Limit.{Limit}
use Rattle.machine.proofs.LimitLaws.{none-fits}
use Rattle.machine.proofs.RunLaws.{limited, up-planned}
use Rattle.machine.proofs.event.up_plan.Goals as goal
use Rattle.machine.proofs.event.up_plan.Goals.{After-first_limit}

-- (13)
limit_is : (c : After-first_limit) (o : Option Limit) → c.first_limit.result ≡ o → o ≡ state_limit (linked (link_up c.args.quiet c.args.peer) (shown c.args.view.now))
limit_is c o e = sym e ∙ limited c.args.view.now (linked (link_up c.args.quiet c.args.peer) (shown c.args.view.now)) c.up_sizes.result c.first_limit.result refl (c.up_sizes.ensures c.args.quiet) c.first_limit.ensures

pub returns-in-Some-clause-plan : goal.returns-in-Some-clause-plan
returns-in-Some-clause-plan c =
    let a = c.args in
    let s = shown a.view.now in
    up-planned (rooms_of a.call.now s) a.call.now.instant.0 a.peer s (counts_of a.counts) a.quiet (Some c.in-Some.limit) (limit_is (goal.at.returns-in-Some-clause-plan c).After-first_limit _ c.in-Some.is)

pub returns-clause-plan : goal.returns-clause-plan
returns-clause-plan c =
    let a = c.args in
    let s = shown a.view.now in
    up-planned (rooms_of a.call.now s) a.call.now.instant.0 a.peer s (counts_of a.counts) a.quiet None (limit_is (goal.at.returns-clause-plan c).After-first_limit _ c.in_default.is)

pub returns-clause-possible : goal.returns-clause-possible
returns-clause-possible c = record {
  doable = record { rest = c.requires; fits = none-fits _ (limit_is (goal.at.returns-clause-possible c).After-first_limit None c.in_default.is) };
  keeps = record { limits = refl; settings = refl };
}
