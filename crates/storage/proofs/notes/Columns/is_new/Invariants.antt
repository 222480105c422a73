-- `is_new`: a walk along the chain (`Walk`). The measure is the place on it.
use Rattle.storage.specs.Rows.Ident.{id_of}
use Rattle.storage.specs.Buckets.{bucket_of, bucket}
use Rattle.storage.proofs.NotesLaws.Walks.{Walk}
use Rattle.storage.proofs.notes.Columns.is_new.Given as goal

abbrev pub invariant-loop-j : goal.invariant-loop-j
invariant-loop-j g l = Walk (bucket g.row.BUCKETS l.self.multiplier l.self.links.now l.self.rows.now) (bucket_of g.row.BUCKETS l.self.multiplier (id_of l.pair.id) l.pair.link) l.self.links.now l.self.rows.now l.i l.pair.link (id_of l.pair.id) l.j

abbrev pub decreases-loop-j : goal.decreases-loop-j
decreases-loop-j g l = l.j
