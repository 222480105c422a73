use Rattle.announcements.proofs.Words.{take, shown}
use Rattle.announcements.specs.Marks.{Covers}
use Rattle.announcements.specs.QueuedRows.{ihaves_at, among}
use Rattle.announcements.proofs.on_dispatch_timer.noted.mark.Given as goal

-- those before this row are marked
abbrev pub invariant-loop-row : goal.invariant-loop-row
invariant-loop-row l = Covers l.back.multiplier (λ id. among id (ihaves_at (shown l.view).dropped (take l.row-index l.back.recorded.now))) l.own_mark l.marks
