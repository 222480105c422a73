-- The peer stands among those that are left, if it is there.
use Rattle.plumtree.proofs.PeerLaws.{Within}
use Rattle.plumtree.proofs.peers.find_link.Given as goal

abbrev pub invariant-loop-left : goal.invariant-loop-left
invariant-loop-left l = Within l.peers l.peer l.at l.left

abbrev pub decreases-loop-left : goal.decreases-loop-left
decreases-loop-left l = l.left
