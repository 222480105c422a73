-- `timer_reach`: an eviction and a tick of the record send to nobody.
use Rattle.std.proofs.Common.{arith}
use Rattle.plumtree.proofs.PeerLaws.{covers-timer, covers-quiet-timer}
use Rattle.plumtree.proofs.peers.timer_reach.Goals as goal

pub returns-in_default : goal.returns-in_default
returns-in_default c = covers-quiet-timer c.args.bytes.now (λ l. absurd (omega arith))

pub returns-then-kind-lt2 : goal.returns-then-kind-lt2
returns-then-kind-lt2 c = covers-timer c.args.bytes.now

pub returns : goal.returns
returns c = covers-quiet-timer c.args.bytes.now (λ l. c.if-kind-lt2.false)
