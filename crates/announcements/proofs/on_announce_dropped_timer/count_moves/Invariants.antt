-- `count_moves`: the rows passed are counted, those that move and those that stay.
use Rattle.announcements.proofs.Words.{◌≡◌, [], length, oldest, younger, shown}
use Rattle.announcements.proofs.OnAnnounceDroppedTimerLaws.{still, held_then, Passing}
use Rattle.announcements.proofs.on_announce_dropped_timer.count_moves.Given as goal

abbrev pub invariant-loop-row : goal.invariant-loop-row
invariant-loop-row l = record {
  passing : Passing (held_then l.call.instant.0 (shown l.view)) (shown l.view) l.row l.passed.counts;
  moved : l.moved ≡ length (oldest [] (still (held_then l.call.instant.0 (shown l.view)) (shown l.view) l.row));
  left : l.left ≡ length (younger [] (still (held_then l.call.instant.0 (shown l.view)) (shown l.view) l.row));
}
