-- `by_link::next_of`: no note from `from` up to i is for the link.
use Rattle.alike.proofs.Words.{◌≡◌, ◌≤◌, drop, shown, peer_at, notes_of}
use Rattle.storage.specs.Lists.Base.{filter}
use Rattle.protocol.specs.Push.{for_peer}
use Rattle.alike.proofs.by_link.next_of.Given as goal

abbrev pub invariant-loop-i : goal.invariant-loop-i
invariant-loop-i l =
    (l.from ≤ l.i) × (l.i ≤ l.n) × (filter (for_peer (peer_at (shown l.view) l.of.link)) (drop l.from (notes_of l.of.table (shown l.view))) ≡ filter (for_peer (peer_at (shown l.view) l.of.link)) (drop l.i (notes_of l.of.table (shown l.view))))
