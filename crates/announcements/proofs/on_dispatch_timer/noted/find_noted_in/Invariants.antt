-- `find_noted_in`: the record with what is noted so far is that after the links before this one.
use Rattle.announcements.proofs.Words.{◌≡◌, ◌++◌, length, All, shown}
use Rattle.announcements.specs.Marks.{FoundCached}
use Rattle.announcements.specs.QueuedRows.{held_then, notes_at, RowsOf}
use Rattle.announcements.proofs.OnDispatchLaws.BatchLaws.{Earlier, after}
use Rattle.announcements.proofs.on_dispatch_timer.noted.find_noted_in.Given as goal

abbrev pub invariant-loop-link : goal.invariant-loop-link
invariant-loop-link g l =
    let s = shown l.view in
    record {
      sofar : after (held_then l.call.instant.0 s) l.call s l.link ≡ s.dropped ++ notes_at s.queue l.noted.items;
      among : RowsOf s.queue l.noted.items;
      earlier : All (Earlier s l.link) l.noted.items;
      found : FoundCached l.call.instant.0 s l.found;
      long : length l.found ≡ g.row.FOUND;
    }
