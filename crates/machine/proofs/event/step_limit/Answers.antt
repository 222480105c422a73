-- `step_limit` meets its contract: where the numbers of entries stay, they are within the limits as they were.
use Rattle.machine.proofs.Words.{sym, ap, ◌∙◌, Limits, limits_of, settled, shown}
use Rattle.decide.specs.Sizes.{sizes_of, fit_sizes}
use Rattle.decide.proofs.TableSizes.{fits-sizes}
use Rattle.steps.proofs.SettledLaws.ThenLaws.{init-of}
use Rattle.steps.proofs.SettledLaws.SizeLaws.{sizes-still}
use Rattle.steps.proofs.SettledLaws.FewLaws.{fit-now}
use Rattle.machine.specs.Steps.{after_event}
use Rattle.machine.proofs.LimitLaws.{fits-none}
use Rattle.machine.proofs.RunLaws.{limits-of, limited}
use Rattle.machine.proofs.StepLaws.{settled-consistent}
use Rattle.machine.proofs.event.step_limit.Goals as goal

pub returns-then-keeps_sizes : goal.returns-then-keeps_sizes
returns-then-keeps_sizes c =
    let v = c.args.view.now in
    let k = c.args.call.now in
    let s = shown v in
    let t = after_event k c.args.step.now s in
    let same = sym (c.keeps_sizes.ensures c.if-keeps_sizes.true k (settled k.instant.0 s) (settled-consistent k.instant.0 s c.requires.named.rest.consistent)) ∙ sizes-still k.instant.0 s (init-of v.head.now v.block.now ∙ c.if-view.true) in
    fits-none t (fits-sizes t ∙ ap (λ (l : Limits). fit_sizes l (sizes_of t)) (c.requires.keeps.limits ∙ limits-of v) ∙ ap (fit_sizes (limits_of v.head.now.limits)) same ∙ fit-now v.head.now v.block.now v.sound)

pub returns : goal.returns
returns c =
    let v = c.args.view.now in
    limited v (after_event c.args.call.now c.args.step.now (shown v)) c.step_sizes.result c.first_limit.result c.requires.keeps.limits c.step_sizes.ensures c.first_limit.ensures
