use Rattle.announcements.proofs.Words.{take, ◌≡◌, false, shown}
use Rattle.announcements.specs.QueuedRows.{ihaves_at, some_held, held_then}
use Rattle.announcements.proofs.on_dispatch_timer.sends.any_cached.Given as goal

-- none before this row is cached
abbrev pub invariant-loop-row : goal.invariant-loop-row
invariant-loop-row l = some_held (held_then l.instant.0 (shown l.ihave.view)) (ihaves_at (shown l.ihave.view).queue (take l.row-index l.ihave.rows.now)) ≡ false
