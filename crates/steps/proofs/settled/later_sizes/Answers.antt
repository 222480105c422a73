-- `later_sizes`: where nothing is due the numbers stand; else each is that of the entries that expire later.
use Rattle.steps.proofs.Words.{refl, sym, ap, ◌∙◌, shown}
use Rattle.decide.specs.Sizes.{sizes_of}
use Rattle.steps.proofs.EvictStepLaws.{evict-lengths}
use Rattle.steps.proofs.SettledLaws.SizeLaws.{sizes-later}
use Rattle.steps.proofs.SettledLaws.NoneDueLaws.{none-evicted}
use Rattle.steps.proofs.settled.later_sizes.Goals as goal

pub returns-then-is_none_due : goal.returns-then-is_none_due
returns-then-is_none_due c =
    let s = shown c.args.view.now in
    c.sizes_now.ensures ∙ ap sizes_of (sym (none-evicted c.args.instant.0 s (sym c.is_none_due.ensures ∙ c.if-is_none_due.true)))

pub returns : goal.returns
returns c =
    let v = c.args.view.now in
    sizes-later c.args.instant.0 v.head.now v.block.now v.sound _ refl c.entries_later-received.ensures c.rows_later-received_rows.ensures c.entries_later-cached.ensures c.rows_later-cached_rows.ensures c.contents_later-contents.ensures c.entries_later-grafted.ensures c.rows_later-grafted_rows.ensures refl refl refl refl
    ∙ sym (evict-lengths c.args.instant.0 (shown v) c.requires.consistent.core)
