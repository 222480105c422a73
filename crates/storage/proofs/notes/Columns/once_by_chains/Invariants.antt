-- `once_by_chains`: the first i notes stand once, and are chained by buckets.
use Rattle.std.proofs.Common.{◌≡◌, length}
use Rattle.storage.specs.Buckets.{bucket, Chained, Once}
use Rattle.storage.proofs.NotesLaws.Walks.{Heads}
use Rattle.storage.proofs.notes.Columns.once_by_chains.Given as goal

abbrev pub invariant-loop-i : goal.invariant-loop-i
invariant-loop-i g l =
    let f = bucket g.row.BUCKETS l.self.multiplier l.self.links.now l.self.rows.now in
    Heads g.row.BUCKETS f l.i l.latest × Chained f l.i l.next × (length l.next ≡ g.row.ROWS)

abbrev pub invariant-loop-i-2 : goal.invariant-loop-i-2
invariant-loop-i-2 g l =
    let f = bucket g.row.BUCKETS l.self.multiplier l.self.links.now l.self.rows.now in
    Heads g.row.BUCKETS f l.i l.latest × Chained f l.i l.next × (length l.next ≡ g.row.ROWS) × Once l.self.links.now l.self.rows.now l.i
