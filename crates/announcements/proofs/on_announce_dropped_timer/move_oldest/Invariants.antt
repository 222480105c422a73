-- `move_oldest`: the rows passed are counted; the oldest of those that are cached stand behind the queue, the younger in the record's first rows.
use Rattle.announcements.proofs.Words.{◌≡◌, [], length, holds, younger, state, Goes}
use Rattle.announcements.proofs.OnAnnounceDroppedTimerLaws.{still, Passing, passed_by}
use Rattle.announcements.proofs.on_announce_dropped_timer.move_oldest.Given as goal

abbrev pub invariant-loop-row : goal.invariant-loop-row
invariant-loop-row l = record {
  passing : Passing (λ x. holds x (state l.initial.panel).cache) (state l.initial.panel) l.row l.passed.counts;
  goes : Goes (passed_by (state l.initial.panel) l.row) l.initial.panel l.panel;
  kept : l.kept ≡ length (younger [] (still (λ x. holds x (state l.initial.panel).cache) (state l.initial.panel) l.row));
}
