-- `plan_limit` meets its contract: by what was found.
use Rattle.machine.proofs.Words.{◌∙◌, ap, sym, Result}
use Rattle.machine.specs.Decided.{limit_found}
use Rattle.machine.specs.Outcomes.{plan_of}
use Rattle.machine.specs.declared.event.Plan.{Plan}
use Rattle.machine.specs.declared.event.Stop.{Stop}
use Rattle.machine.proofs.limit_met.plan_limit.Goals as goal

pub returns-in-Ok : goal.returns-in-Ok
returns-in-Ok c call s = ap (λ (x : Result Plan Stop). limit_found (plan_of call s x)) (sym c.in-Ok.is)

pub returns-in-Err : goal.returns-in-Err
returns-in-Err c call s = c.limit.ensures ∙ ap (λ (x : Result Plan Stop). limit_found (plan_of call s x)) (sym c.in-Err.is)
