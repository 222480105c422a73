-- `is_far`: by the step.
use Rattle.std.proofs.Common.{sym, ap}
use Rattle.machine.specs.Kinds.Meaning.{step_far}
use Rattle.machine.proofs.StepLaws.{others-near}
use Rattle.machine.proofs.event.is_far.Goals as goal

pub returns-in-NewSwarm : goal.returns-in-NewSwarm
unfolding step_far
returns-in-NewSwarm c = sym (ap step_far c.in-NewSwarm.is)

pub returns-in_default : goal.returns-in_default
returns-in_default c = others-near c.args.step c.in_default.not-NewSwarm
