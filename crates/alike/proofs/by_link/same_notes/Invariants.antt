-- `by_link::same_notes`: the notes of the first l links agree.
use Rattle.alike.proofs.Words.{◌≡◌, true, ℕ, ◌≤◌, ◌<◌, length, shown, peer_at, notes_of}
use Rattle.alike.specs.NoteTable.{same_for}
use Rattle.alike.proofs.by_link.same_notes.Given as goal

abbrev pub invariant-loop-link : goal.invariant-loop-link
invariant-loop-link l = (l.link ≤ length (shown l.x).links) × ((k : ℕ) → k < l.link → same_for (peer_at (shown l.x) k) (notes_of l.table (shown l.x)) (notes_of l.table (shown l.y)) ≡ true)
