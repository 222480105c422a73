-- `announce_sizes` meets its contract: the settled sizes, with what moves and what is left.
use Rattle.announcements.proofs.Words.{arith, count-queue, shown, sizes_value}
use Rattle.announcements.proofs.OnAnnounceDroppedTimerLaws.{moved-few, queued-of, sized-moved}
use Rattle.announcements.proofs.on_announce_dropped_timer.announce_sizes.Goals as goal

pub overflow_add-sizes : goal.overflow_add-sizes
overflow_add-sizes c =
    let v = c.args.view.now in
    let now = c.args.call.now.instant.0 in
    omega (
      arith,
      c.requires.1.moved,
      moved-few now (shown v),
      c.requires.0.consistent.core.within.in_all,
      queued-of now (shown v) c.sizes_then-sizes.result c.sizes_then-sizes.ensures,
      count-queue v.head.now v.block.now v.sound,
      v.sound.fit.within.queued,
      v.sound.fit.ceilings.Q,
    )

pub returns : goal.returns
returns c =
    sized-moved c.args.call.now.instant.0 (shown c.args.view.now) (sizes_value c.sizes_then-sizes.result) c.sizes_then-sizes.ensures c.args.cached.now.moved c.args.cached.now.left c.requires.1.moved c.requires.1.left
