-- `once_of_link`: a walk along the chain, which collects identifiers. The measure is the place on it.
use Rattle.std.proofs.Common.{◌≡◌, length}
use Rattle.storage.proofs.NotesLaws.Links.{Collected}
use Rattle.storage.proofs.notes.Columns.once_of_link.Given as goal

abbrev pub invariant-loop-j : goal.invariant-loop-j
invariant-loop-j l = Collected l.self.links.now l.self.rows.now l.n l.link l.j l.count l.ids × (length l.ids ≡ 256)

abbrev pub decreases-loop-j : goal.decreases-loop-j
decreases-loop-j l = l.j
