-- `once_by_rows`: the first i notes stand once.
use Rattle.storage.specs.Buckets.{Once}
use Rattle.storage.proofs.notes.Columns.once_by_rows.Given as goal

abbrev pub invariant-loop-i : goal.invariant-loop-i
invariant-loop-i l = Once l.self.links.now l.self.rows.now l.i
