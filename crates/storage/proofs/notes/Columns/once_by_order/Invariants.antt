-- `once_by_order`: the first i rows are chained by their numbers; the rows of each number before `link` stand once.
use Rattle.std.proofs.Common.{◌≡◌, length, get_or}
use Rattle.storage.specs.Buckets.{Chained}
use Rattle.storage.proofs.NotesLaws.Walks.{Heads}
use Rattle.storage.proofs.NotesLaws.Links.{Numbers, OnceBelow}
use Rattle.storage.proofs.notes.Columns.once_by_order.Given as goal

abbrev pub invariant-loop-i : goal.invariant-loop-i
invariant-loop-i l =
    Heads 256 (λ p. get_or l.self.links.now p 0) l.i l.latest × Chained (λ p. get_or l.self.links.now p 0) l.i l.next × (length l.next ≡ 4096) × Numbers l.self.links.now l.i

abbrev pub invariant-loop-link : goal.invariant-loop-link
invariant-loop-link l = OnceBelow l.self.links.now l.self.rows.now l.n l.link
