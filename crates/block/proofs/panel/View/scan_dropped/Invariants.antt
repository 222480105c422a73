-- Count and answer are those of the rows passed.
use Rattle.block.proofs.Words.{◌≡◌, ◌≤◌, take, id_of, count, any}
use Rattle.protocol.specs.Push.{for_peer, notes}
use Rattle.block.specs.LinkSteps.{peer_at}
use Rattle.block.specs.Views.{shown}
use Rattle.block.proofs.panel.View.scan_dropped.Given as goal

abbrev pub invariant-loop-row : goal.invariant-loop-row
invariant-loop-row l = record {
  within : l.count ≤ l.row;
  count : l.count ≡ count (for_peer (peer_at (shown l.self) l.link)) (take l.row (shown l.self).dropped);
  noted : l.noted ≡ any (notes (peer_at (shown l.self) l.link) (id_of l.id)) (take l.row (shown l.self).dropped);
}
