-- `tell_rows`: what the rows that are left tell completes what is to be told.
use Rattle.steps.proofs.Words.{◌≡◌, after}
use Rattle.steps.proofs.ForgottenLaws.{told_from}
use Rattle.steps.proofs.on_evict_cache_timer.tell_rows.Given as goal

abbrev pub invariant-loop-row : goal.invariant-loop-row
invariant-loop-row g l =
    let held = g.S.Sink.intake in
    let v = l.view in
    after (told_from v.head.now v.block.now l.row-items l.row-index) (held l.out) ≡ after (told_from v.head.now v.block.now l.row-items 0) (held l.initial.out)
