use Rattle.announcements.proofs.Words.{◌≡◌, shown}
use Rattle.announcements.specs.QueuedRows.{held_then}
use Rattle.announcements.proofs.OnDispatchLaws.BatchLaws.{after}
use Rattle.announcements.proofs.on_dispatch_timer.noted.some_handed_back.Given as goal

-- the links before this one add nothing to the record
abbrev pub invariant-loop-link : goal.invariant-loop-link
invariant-loop-link l = let s = shown l.view in after (held_then l.call.instant.0 s) l.call s l.link ≡ s.dropped
