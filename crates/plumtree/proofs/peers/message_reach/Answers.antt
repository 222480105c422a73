-- `message_reach`: a received message starts with its sender and its kind, and only a Gossip and a Graft lead to sends.
use Rattle.plumtree.proofs.PeerLaws.{covers-message, covers-unread, covers-unread-kind, covers-kind}
use Rattle.plumtree.proofs.peers.message_reach.Goals as goal

pub returns-in_default : goal.returns-in_default
returns-in_default c = covers-unread c.args.bytes.now _ c.in_default.ensures

pub returns-in_default-kind : goal.returns-in_default-kind
returns-in_default-kind c = covers-unread-kind c.args.bytes.now _ _ _ c.in-Ok.ensures c.in_default-kind.ensures

pub returns-then-kind-eq0 : goal.returns-then-kind-eq0
returns-then-kind-eq0 c = covers-message c.args.bytes.now c.in-Ok.peer _ c.in-Ok.ensures

pub returns : goal.returns
returns c = covers-kind c.args.bytes.now _ _ _ _ c.in-Ok.ensures c.in-Ok-kind.ensures c.if-kind-eq0.false c.if-kind-eq2.false
