-- `note_link`: the record with what is noted so far is that with the rows before this one noted.
use Rattle.announcements.proofs.Words.{◌+◌, ◌++◌, peer_at, shown}
use Rattle.announcements.specs.Marks.{Covers, FoundCached}
use Rattle.announcements.specs.QueuedRows.{held_then, notes_at}
use Rattle.announcements.proofs.OnDispatchLaws.NotedLaws.{known, Holding, Sofar}
use Rattle.announcements.proofs.on_dispatch_timer.noted.note_link.Given as goal

abbrev pub invariant-loop-row : goal.invariant-loop-row
invariant-loop-row l =
    let s = shown l.view in
    let p = peer_at s l.back.link in
    record {
      holding : Holding p s.dropped s.queue l.back.recorded.now l.before l.noted.items;
      sofar : Sofar p s.dropped s.queue l.back.recorded.now l.before (held_then l.back.instant.0 s) l.back.rows.now (s.dropped ++ notes_at s.queue l.fn.noted.items) l.row-index l.noted.items;
      marked : Covers l.back.multiplier (known p s.dropped s.queue l.back.recorded.now l.before l.noted.items) (l.back.link + 1) l.marks;
      found : FoundCached l.back.instant.0 s l.found;
    }
