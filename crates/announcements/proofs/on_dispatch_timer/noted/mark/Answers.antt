-- `mark` meets its contract.
use Rattle.announcements.proofs.Words.{rules, ℕ, ◌+◌, ◌<◌, sym, ap, ◌∙◌, false, take, set, List, inl, inr, ⊎_elim, subst, eqb, id_of, Ihave, Note, shown}
use Rattle.std.proofs.Math.Seq.{take_all}
use Rattle.announcements.specs.Marks.{Covers}
use Rattle.announcements.specs.QueuedRows.{ihaves_at, among}
use Rattle.announcements.proofs.OnDispatchLaws.MarkLaws.{place-in, covers-none, covers_more, among-known}
use Rattle.announcements.proofs.OnDispatchLaws.RowLaws.{any-start, at-next}
use Rattle.announcements.proofs.on_dispatch_timer.noted.mark.Goals as goal

pub loop-row-init : goal.loop-row-init
loop-row-init c =
    let ds = (shown c.args.view.now).dropped in
    covers-none c.args.back.now.multiplier (λ id. among id (ihaves_at ds (take 0 c.args.back.now.recorded.now))) c.args.own_mark c.args.marks.now (search rules) (λ id. any-start ds c.args.back.now.recorded.now (λ (h : Ihave). eqb h.id id))

pub bounds-marks-place : goal.bounds-marks-place
bounds-marks-place c = subst (λ (n : ℕ). n < 4096) (sym c.place.ensures) (place-in c.args.back.now.multiplier (id_of c.recorded.result.id))

pub loop-row-preserved : goal.loop-row-preserved
loop-row-preserved c =
    let ds = (shown c.args.view.now).dropped in
    let rows = c.args.back.now.recorded.now in
    let i = c.loop-row.row-index in
    let id = id_of c.recorded.result.id in
    subst (λ (n : ℕ). Covers c.args.back.now.multiplier (λ j. among j (ihaves_at ds (take (i + 1) rows))) c.args.own_mark (set c.loop-row.marks n c.args.own_mark)) (sym c.place.ensures)
    (covers_more c.loop-row.invariant id (λ j. among j (ihaves_at ds (take (i + 1) rows)))
    (λ j h. ⊎_elim (λ a. inl a) (λ b. inr (b ∙ ap (λ (n : Note). n.id) c.recorded.ensures.same))
    (among-known false (ihaves_at ds (take i rows)) _ j (ap (among j) (sym (at-next ds rows i c.loop-row-test.true)) ∙ h))))

pub returns : goal.returns
returns c =
    let ds = (shown c.args.view.now).dropped in
    subst (λ (rows : List ℕ). Covers c.args.back.now.multiplier (λ id. among id (ihaves_at ds rows)) c.args.own_mark c.loop-row.marks) (take_all c.loop-row.row-index c.args.back.now.recorded.now c.loop-row-test.false) c.loop-row.invariant
