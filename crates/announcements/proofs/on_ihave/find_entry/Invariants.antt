-- `find_entry`: lo and hi bracket the identifier. The measure is hi - lo.
use Rattle.announcements.proofs.Words.{◌-◌, id_of}
use Rattle.storage.proofs.RowsLaws.Sorted.{Bracket}
use Rattle.announcements.specs.OnIhave.{entries_value, entries_at, ids}
use Rattle.announcements.proofs.on_ihave.find_entry.Given as goal

abbrev pub invariant-loop-lo : goal.invariant-loop-lo
invariant-loop-lo l = Bracket (ids (entries_at (entries_value l.entries) l.order)) (id_of l.id) l.lo l.hi

abbrev pub decreases-loop-lo : goal.decreases-loop-lo
decreases-loop-lo l = l.hi - l.lo
