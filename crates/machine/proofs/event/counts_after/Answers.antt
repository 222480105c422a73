-- `counts_after`: by the step.
use Rattle.machine.proofs.Words.{sym, ap, ◌∙◌, eqb-false}
use Rattle.whole.specs.Stats.{counts_of}
use Rattle.machine.specs.Kinds.Meaning.{step_far, step_counts}
use Rattle.machine.specs.declared.kinds.Step.{Step}
use Rattle.machine.proofs.StepLaws.{others-counted}
use Rattle.machine.proofs.event.counts_after.Goals as goal

pub raised-requires : goal.raised-requires
unfolding step_far
raised-requires c =
    let far = sym (ap step_far c.in-NewSwarm.is) ∙ c.requires in
    eqb-false c.in-NewSwarm.message.round.0 65535 far

pub returns-in-NewSwarm : goal.returns-in-NewSwarm
unfolding step_counts
returns-in-NewSwarm c = c.raised.ensures ∙ sym (ap (λ (x : Step). step_counts x (counts_of c.args.counts)) c.in-NewSwarm.is)

pub returns-in_default : goal.returns-in_default
returns-in_default c = others-counted c.args.step c.in_default.not-NewSwarm (counts_of c.args.counts)
