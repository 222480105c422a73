-- `link_peers`: one link more has its peer (`peers-next`).
use Rattle.std.proofs.Common.{refl}
use Rattle.plumtree.proofs.PeerLaws.{peers-none}
use Rattle.plumtree.proofs.peers.link_peers.Goals as goal

pub loop-link-init : goal.loop-link-init
loop-link-init c = peers-none c.args.block.now _ refl
