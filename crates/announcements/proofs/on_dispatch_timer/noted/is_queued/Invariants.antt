use Rattle.announcements.proofs.Words.{take, ◌≡◌, false, id_of, shown}
use Rattle.announcements.specs.QueuedRows.{ihaves_at, among}
use Rattle.announcements.proofs.on_dispatch_timer.noted.is_queued.Given as goal

-- none before this row is of the identifier
abbrev pub invariant-loop-row : goal.invariant-loop-row
invariant-loop-row l = among (id_of l.id) (ihaves_at (shown l.view).queue (take l.row-index l.queued)) ≡ false
