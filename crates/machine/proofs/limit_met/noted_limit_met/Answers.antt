-- `noted_limit_met` meets its contract: by what questions 10 to 13 find.
use Rattle.machine.proofs.Words.{◌∙◌, ap, shown}
use Rattle.protocol.specs.State.{zero_counts}
use Rattle.machine.specs.Decided.{limit_found}
use Rattle.machine.proofs.limit_met.noted_limit_met.Goals as goal

pub returns : goal.returns
unfolding zero_counts
returns c = c.plan_limit.ensures c.args.call.now (shown c.args.view.now) ∙ ap limit_found c.timer_plan.ensures.plan
