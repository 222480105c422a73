-- The first links have their peers.
use Rattle.plumtree.specs.Peers.{PeersIn}
use Rattle.plumtree.proofs.peers.link_peers.Given as goal

abbrev pub invariant-loop-link : goal.invariant-loop-link
invariant-loop-link l = PeersIn l.block l.link l.peers
