-- `by_link::same_for`: the notes before the two cursors agree. The measure is n - i.
use Rattle.alike.proofs.Words.{◌-◌, shown, peer_at, notes_of}
use Rattle.alike.proofs.ByLink.{Cursors}
use Rattle.alike.proofs.by_link.same_for.Given as goal

abbrev pub invariant-loop-i : goal.invariant-loop-i
invariant-loop-i l = Cursors (peer_at (shown l.x) l.of.link) (notes_of l.of.table (shown l.x)) (notes_of l.of.table (shown l.y)) l.i l.j

abbrev pub decreases-loop-i : goal.decreases-loop-i
decreases-loop-i l = l.n - l.i
