-- `is_queued` meets its contract.
use Rattle.announcements.proofs.Words.{sym, ap, ◌∙◌, eqb, id_of, Ihave, Note, shown}
use Rattle.announcements.proofs.OnDispatchLaws.RowLaws.{any-start, any-found, any-not}
use Rattle.announcements.proofs.on_dispatch_timer.noted.is_queued.Goals as goal

pub loop-row-init : goal.loop-row-init
loop-row-init c = any-start (shown c.args.view.now).queue c.args.queued.now (λ (h : Ihave). eqb h.id (id_of c.args.id))

pub returns-then-eq : goal.returns-then-eq
returns-then-eq c =
    any-found (shown c.args.view.now).queue c.args.queued.now c.loop-row.row-index c.loop-row-test.true (λ (h : Ihave). eqb h.id (id_of c.args.id)) c.loop-row.invariant
    (ap (λ (n : Note). eqb n.id (id_of c.args.id)) (sym c.queued.ensures) ∙ sym c.eq.ensures ∙ c.if-eq.true)

pub loop-row-preserved : goal.loop-row-preserved
loop-row-preserved c =
    any-not (shown c.args.view.now).queue c.args.queued.now c.loop-row.row-index c.loop-row-test.true (λ (h : Ihave). eqb h.id (id_of c.args.id)) c.loop-row.invariant
    (ap (λ (n : Note). eqb n.id (id_of c.args.id)) (sym c.queued.ensures) ∙ sym c.eq.ensures ∙ c.if-eq.false)
