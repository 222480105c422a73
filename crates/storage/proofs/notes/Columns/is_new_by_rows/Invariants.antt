-- `is_new_by_rows`: none of the first j rows is the note.
use Rattle.storage.specs.Rows.Ident.{id_of}
use Rattle.storage.specs.Buckets.{New}
use Rattle.storage.proofs.notes.Columns.is_new_by_rows.Given as goal

abbrev pub invariant-loop-j : goal.invariant-loop-j
invariant-loop-j l = New l.self.links.now l.self.rows.now l.j l.pair.link (id_of l.pair.id)
