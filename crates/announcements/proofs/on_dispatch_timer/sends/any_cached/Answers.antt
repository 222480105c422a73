-- `any_cached` meets its contract.
use Rattle.announcements.proofs.Words.{sym, ap, ◌∙◌, Ihave, Note, shown}
use Rattle.announcements.specs.QueuedRows.{held_then}
use Rattle.announcements.proofs.OnDispatchLaws.RowLaws.{any-start, any-found, any-not}
use Rattle.announcements.proofs.on_dispatch_timer.sends.any_cached.Goals as goal

pub loop-row-init : goal.loop-row-init
loop-row-init c = any-start (shown c.args.ihave.now.view).queue c.args.ihave.now.rows.now (λ (h : Ihave). held_then c.args.instant.0 (shown c.args.ihave.now.view) h.id)

pub returns-then-is_cached_then : goal.returns-then-is_cached_then
returns-then-is_cached_then c =
    let held = held_then c.args.instant.0 (shown c.args.ihave.now.view) in
    any-found (shown c.args.ihave.now.view).queue c.args.ihave.now.rows.now c.loop-row.row-index c.loop-row-test.true (λ (h : Ihave). held h.id) c.loop-row.invariant
    (ap (λ (n : Note). held n.id) (sym c.queued.ensures) ∙ sym c.is_cached_then.ensures ∙ c.if-is_cached_then.true)

pub loop-row-preserved : goal.loop-row-preserved
loop-row-preserved c =
    let held = held_then c.args.instant.0 (shown c.args.ihave.now.view) in
    any-not (shown c.args.ihave.now.view).queue c.args.ihave.now.rows.now c.loop-row.row-index c.loop-row-test.true (λ (h : Ihave). held h.id) c.loop-row.invariant
    (ap (λ (n : Note). held n.id) (sym c.queued.ensures) ∙ sym c.is_cached_then.ensures ∙ c.if-is_cached_then.false)
