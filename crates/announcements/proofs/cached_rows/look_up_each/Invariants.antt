-- `look_up_each`: the rows passed are told.
use Rattle.announcements.proofs.Words.{◌≡◌, length, settled, shown}
use Rattle.announcements.specs.CachedRows.{CachedTold}
use Rattle.announcements.proofs.cached_rows.look_up_each.Given as goal

abbrev pub invariant-loop-row : goal.invariant-loop-row
invariant-loop-row l = record {
  told : CachedTold (settled l.instant.0 (shown l.view)) l.row l.cached;
  long : length l.cached ≡ length l.initial.cached;
}
