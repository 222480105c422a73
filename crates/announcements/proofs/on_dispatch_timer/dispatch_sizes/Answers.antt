-- `dispatch_sizes` meets its contract: the queue is empty, and the record grows by what is noted.
use Rattle.announcements.proofs.Words.{arith, ap, sym, ◌∙◌, ◌≡◌, ◌+◌, ℕ, length, length-append, settled, Sizes, sizes_of, sized_queued, sized_recorded, note_at, shown, same_dropped, record-few}
use lib.ListN.{length-map}
use Rattle.announcements.specs.OnDispatchTimer.{after_dispatch}
use Rattle.announcements.specs.QueuedRows.{notes_at}
use Rattle.announcements.proofs.OnDispatchLaws.StateLaws.{sizes-after, dropped-after, recorded-of}
use Rattle.announcements.proofs.on_dispatch_timer.dispatch_sizes.Goals as goal

pub overflow_add-sizes : goal.overflow_add-sizes
overflow_add-sizes c =
    let v = c.args.view.now in
    let now = c.args.call.now.instant.0 in
    omega (arith, recorded-of (settled now (shown v)) c.sizes_then-sizes.result c.sizes_then-sizes.ensures, ap length (same_dropped now (shown v)), record-few v.head.now v.block.now v.sound, c.requires.1.few)

pub returns : goal.returns
returns c =
    let call = c.args.call.now in
    let t = settled call.instant.0 (shown c.args.view.now) in
    let z = c.sizes_then-sizes.result in
    let rows = c.args.noted.now in
    let n : z.dropped + length rows ≡ length (after_dispatch call t).dropped = omega (
      arith,
      recorded-of t z c.sizes_then-sizes.ensures,
      ap length (dropped-after call t ∙ c.requires.1.noted),
      length-append t.dropped (notes_at t.queue rows),
      length-map rows (note_at t.queue),
    ) in
    ap (λ (x : Sizes). sized_queued 0 (sized_recorded (z.dropped + length rows) x)) c.sizes_then-sizes.ensures
    ∙ ap (λ (k : ℕ). sized_queued 0 (sized_recorded k (sizes_of t))) n
    ∙ sym (sizes-after call t)
