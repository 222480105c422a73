-- The numbers with the message taken in, what the lazy push queues, and what is noted.
use Rattle.payloads.proofs.Words.{arith, length, id_of, Links, shown, links-few, AllBelow, same_links, below-wider, few-links}
use Rattle.std.proofs.Common.{subst}
use Rattle.payloads.proofs.PushedLaws.{taken-few}
use Rattle.payloads.proofs.BroadcastStateLaws.{sizes-are}
use Rattle.payloads.proofs.broadcast.broadcast_sizes.Goals as goal

-- the noted links are among the links
pub len-requires : goal.len-requires
len-requires c =
    let a = c.args in
    let v = a.view.now in
    let noted = a.message.now.push.noted in
    below-wider noted (length (shown v).links) 32 (subst (λ (l : Links). AllBelow noted (length l)) (same_links a.call.now.instant.0 (shown v)) c.requires.1.noted.below) (links-few v.head.now v.block.now v.sound)

pub overflow_add-sizes : goal.overflow_add-sizes
overflow_add-sizes c =
    let a = c.args in
    let v = a.view.now in
    omega (arith, c.lazy_count.ensures.few, (taken-few a.call.now.instant.0 (id_of a.message.now.id) a.message.now.content.now 0 v.head.now v.block.now c.taken_sizes-sizes.result (c.taken_sizes-sizes.ensures 0) v.sound).0)

pub overflow_add-sizes-2 : goal.overflow_add-sizes-2
overflow_add-sizes-2 c =
    let a = c.args in
    let v = a.view.now in
    omega (arith, c.len.ensures, few-links a.message.now.push.noted, (taken-few a.call.now.instant.0 (id_of a.message.now.id) a.message.now.content.now 0 v.head.now v.block.now c.taken_sizes-sizes.result (c.taken_sizes-sizes.ensures 0) v.sound).1)

pub returns : goal.returns
returns c =
    let a = c.args in
    let v = a.view.now in
    rw c.len.ensures (sizes-are a.call.now a.message.now.id a.message.now.content.now v.head.now v.block.now c.taken_sizes-sizes.result (c.taken_sizes-sizes.ensures 0) c.lazy_count.result c.lazy_count.ensures.count a.message.now.push c.requires.1)
