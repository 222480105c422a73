-- `gossip_actions` meets its contract: the push, the dispatch timer, the optimising and the content, one behind the other.
use Rattle.payloads.proofs.Words.{length, Links, shown, AllBelow, same_links}
use Rattle.std.proofs.Common.{subst}
use Rattle.payloads.proofs.AfterLaws.{after-4}
use Rattle.payloads.proofs.OnGossipLaws.{new-bytes}
use Rattle.payloads.proofs.OptimizeTreeLaws.{decided-held, held-then}
use Rattle.payloads.proofs.on_gossip.gossip_actions.Goals as goal

pub eager_push-requires : goal.eager_push-requires
eager_push-requires g c =
    let a = c.args in
    record { rest = (c.requires.rest.0, subst (λ (l : Links). AllBelow a.message.now.decision.push.to (length l)) (same_links a.call.now.instant.0 (shown a.view.now)) c.requires.decided.push.to.below) }

pub optimize_actions-requires : goal.optimize_actions-requires
optimize_actions-requires g c =
    let a = c.args in
    let d = a.message.now.decision in
    record { rest = (c.requires.rest.0, held-then a.call.now.instant.0 (shown a.view.now) d.shortcut (decided-held _ _ _ d.shortcut c.requires.decided.shortcut)) }

pub returns : goal.returns
returns g c =
    let a = c.args in
    after-4 _ _ _ _ _ (new-bytes a.call.now a.message.now a.call.now.instant.0 (shown a.view.now) c.requires.decided) _
    _ c.eager_push.ensures _ c.schedule_dispatch.ensures _ c.optimize_actions.ensures _ c.encode.ensures
