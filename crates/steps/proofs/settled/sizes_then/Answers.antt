-- `sizes_then`: with `init` set the numbers stand, and else those of what is later.
use Rattle.steps.proofs.Words.{sym, ◌∙◌, shown}
use Rattle.steps.proofs.SettledLaws.ThenLaws.{init-of}
use Rattle.steps.proofs.EvictStepLaws.{evict-lengths}
use Rattle.steps.proofs.SettledLaws.SizeLaws.{sizes-still, sizes-evicted}
use Rattle.steps.proofs.settled.sizes_then.Goals as goal

pub returns-then-view : goal.returns-then-view
returns-then-view c =
    let v = c.args.view.now in
    c.sizes_now.ensures ∙ sym (sizes-still c.args.instant.0 (shown v) (init-of v.head.now v.block.now ∙ c.if-view.true))

pub returns : goal.returns
returns c =
    let v = c.args.view.now in
    c.later_sizes.ensures ∙ evict-lengths c.args.instant.0 (shown v) c.requires.consistent.core ∙ sym (sizes-evicted c.args.instant.0 (shown v) (init-of v.head.now v.block.now ∙ c.if-view.false))
