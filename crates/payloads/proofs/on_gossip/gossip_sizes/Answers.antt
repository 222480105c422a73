-- The numbers with the message taken in, what the lazy push queues, what is noted, and what is not missing then.
use Rattle.payloads.proofs.Words.{arith, suc, length, id_of, Links, shown, links-few, AllBelow, same_links, below-wider, few-links}
use Rattle.std.proofs.Common.{subst}
use Rattle.payloads.proofs.PushedLaws.{taken-few}
use Rattle.payloads.proofs.GossipStateLaws.CountLaws.{sizes-are, missing-fewer, timers-fewer}
use Rattle.payloads.proofs.on_gossip.gossip_sizes.Goals as goal

-- the noted links are among the links
pub len-requires : goal.len-requires
len-requires c =
    let a = c.args in
    let v = a.view.now in
    let noted = a.message.now.decision.push.noted in
    below-wider noted (length (shown v).links) 32 (subst (λ (l : Links). AllBelow noted (length l)) (same_links a.call.now.instant.0 (shown v)) c.requires.1.push.noted.below) (links-few v.head.now v.block.now v.sound)

pub overflow_add-sizes : goal.overflow_add-sizes
overflow_add-sizes c =
    let a = c.args in
    let m = a.message.now in
    let v = a.view.now in
    omega (arith, c.lazy_count.ensures.few, (taken-few a.call.now.instant.0 (id_of m.id) m.content.now 0 v.head.now v.block.now c.taken_sizes-sizes.result (c.taken_sizes-sizes.ensures 0) v.sound).0)

pub overflow_add-sizes-2 : goal.overflow_add-sizes-2
overflow_add-sizes-2 c =
    let a = c.args in
    let m = a.message.now in
    let v = a.view.now in
    omega (arith, c.len.ensures, few-links c.args.message.now.decision.push.noted, (taken-few a.call.now.instant.0 (id_of m.id) m.content.now 0 v.head.now v.block.now c.taken_sizes-sizes.result (c.taken_sizes-sizes.ensures 0) v.sound).1)

pub overflow_sub-sizes : goal.overflow_sub-sizes
overflow_sub-sizes c =
    let a = c.args in
    let m = a.message.now in
    let v = a.view.now in
    missing-fewer a.call.now m v.head.now v.block.now c.requires.0 c.taken_sizes-sizes.result (c.taken_sizes-sizes.ensures (suc m.round.0)) c.is_missing.result c.is_missing.ensures

pub overflow_sub-sizes-2 : goal.overflow_sub-sizes-2
overflow_sub-sizes-2 c =
    let a = c.args in
    let m = a.message.now in
    let v = a.view.now in
    timers-fewer a.call.now m v.head.now v.block.now c.requires.0 c.taken_sizes-sizes.result (c.taken_sizes-sizes.ensures (suc m.round.0)) c.has_timer.result c.has_timer.ensures

pub returns : goal.returns
returns c =
    let a = c.args in
    let m = a.message.now in
    let v = a.view.now in
    rw c.len.ensures (sizes-are a.call.now m v.head.now v.block.now c.requires.0 c.taken_sizes-sizes.result (c.taken_sizes-sizes.ensures (suc m.round.0)) c.lazy_count.result c.lazy_count.ensures.count c.requires.1 c.is_missing.result c.is_missing.ensures c.has_timer.result c.has_timer.ensures)
