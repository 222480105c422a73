-- `queue_stands` meets its contract: a queue before, or what moves to it.
use Rattle.announcements.proofs.Words.{arith, shown}
use Rattle.announcements.proofs.OnAnnounceDroppedTimerLaws.{queue-before, queue-moved}
use Rattle.announcements.proofs.on_announce_dropped_timer.queue_stands.Goals as goal

pub returns-then-queue_len-gt0 : goal.returns-then-queue_len-gt0
returns-then-queue_len-gt0 c = queue-before c.args.call.now.instant.0 (shown c.args.view.now) c.queue_len.result c.args.cached.now.moved c.queue_len.ensures.long c.requires.moved c.if-queue_len-gt0.true

pub returns-else-queue_len-gt0 : goal.returns-else-queue_len-gt0
returns-else-queue_len-gt0 c =
    queue-moved c.args.call.now.instant.0 (shown c.args.view.now) c.queue_len.result c.args.cached.now.moved c.queue_len.ensures.long c.requires.moved (omega (arith, c.if-queue_len-gt0.false))
