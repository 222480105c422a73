-- `ihave_sizes`: after i entries the numbers are those of the first i.
use Rattle.announcements.proofs.Words.{sym, ap, ◌∙◌, arith, List, take, get_or, settled, peer_at, shown, sizes_value}
use Rattle.std.proofs.Common.{take_all}
use Rattle.block.proofs.TimerLaws.{count-timers}
use Rattle.block.proofs.MissingLaws.{count-missing}
use Rattle.steps.proofs.EvictStepLaws.{rest-settled}
use Rattle.announcements.specs.declared.on_ihave.Unreceived.{Unreceived}
use Rattle.announcements.specs.OnIhave.{entry_value, entries_value}
use Rattle.announcements.proofs.OnIhaveLaws.{counted, counted-start, counted-next, counted-end, counted-few, byte-few, then-missing, then-timers}
use Rattle.announcements.proofs.IhavesLaws.Ordered.{nothing, value-more, few-taken}
use Rattle.announcements.proofs.on_ihave.ihave_sizes.Goals as goal

pub loop-entry-init : goal.loop-entry-init
loop-entry-init c = c.sizes_then-sizes.ensures ∙ counted-start (settled c.args.call.now.instant.0 (shown c.args.view.now))

pub overflow_add-sizes : goal.overflow_add-sizes
overflow_add-sizes c =
    let v = c.args.view.now in
    let now = c.args.call.now.instant.0 in
    let es = c.args.decision.now.entries.now in
    let l = c.loop-entry in
    omega (
      arith,
      byte-few (get_or es l.entry-index nothing).adds_missing,
      (counted-few (settled now (shown v)) (entries_value (take l.entry-index es)) (sizes_value l.sizes) l.invariant).0,
      few-taken l.entry-index es,
      then-missing now (shown v),
      count-missing v.head.now v.block.now,
      v.sound.fit.within.missing,
      v.sound.fit.ceilings.S,
      c.requires.few,
    )

pub overflow_add-sizes-in-loop-entry : goal.overflow_add-sizes-in-loop-entry
overflow_add-sizes-in-loop-entry c =
    let v = c.args.view.now in
    let now = c.args.call.now.instant.0 in
    let es = c.args.decision.now.entries.now in
    let l = c.loop-entry in
    omega (
      arith,
      byte-few (get_or es l.entry-index nothing).adds_timer,
      (counted-few (settled now (shown v)) (entries_value (take l.entry-index es)) (sizes_value l.sizes) l.invariant).1,
      few-taken l.entry-index es,
      then-timers now (shown v),
      count-timers v.head.now v.block.now,
      v.sound.fit.within.timers,
      v.sound.fit.ceilings.T,
      c.requires.few,
    )

pub loop-entry-preserved : goal.loop-entry-preserved
loop-entry-preserved c =
    let t = settled c.args.call.now.instant.0 (shown c.args.view.now) in
    let es = c.args.decision.now.entries.now in
    let l = c.loop-entry in
    let e = get_or es l.entry-index nothing in
    let adds = c.requires.decided.adds l.entry-index nothing c.loop-entry-test.true in
    counted-next t (entries_value (take l.entry-index es)) (entry_value e) (sizes_value l.sizes) e.adds_missing e.adds_timer l.invariant adds.missing adds.timer
    ∙ ap (counted t) (sym (value-more es l.entry-index c.loop-entry-test.true))

pub returns : goal.returns
returns c link =
    let a = c.args in
    let l = c.loop-entry in
    let t = settled a.call.now.instant.0 (shown a.view.now) in
    let es = a.decision.now.entries.now in
    l.invariant
    ∙ ap (λ (x : List Unreceived). counted t (entries_value x)) (take_all l.entry-index es c.loop-entry-test.false)
    ∙ counted-end t (entries_value es) c.requires.decided.count (rest-settled a.call.now.instant.0 (shown a.view.now) c.requires.rest) (peer_at t link)
