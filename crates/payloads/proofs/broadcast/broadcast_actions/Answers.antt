-- `broadcast_actions` meets its contract: a dispatch timer and the push.
use Rattle.payloads.proofs.Words.{length, Links, shown, AllBelow, same_links}
use Rattle.std.proofs.Common.{subst}
use Rattle.payloads.proofs.AfterLaws.{after-both}
use Rattle.payloads.proofs.BroadcastLaws.{broadcast-parts}
use Rattle.payloads.proofs.broadcast.broadcast_actions.Goals as goal

pub eager_push-requires : goal.eager_push-requires
eager_push-requires g c =
    let a = c.args in
    record { rest = (c.requires.rest.0, subst (λ (l : Links). AllBelow a.message.now.push.to (length l)) (same_links a.call.now.instant.0 (shown a.view.now)) c.requires.rest.1.to.below) }

pub returns : goal.returns
returns g c =
    let a = c.args in
    after-both _ _ _ (broadcast-parts a.call.now a.message.now a.call.now.instant.0 (shown a.view.now) c.requires.rest.1) _ _ _ c.schedule_dispatch.ensures c.eager_push.ensures
