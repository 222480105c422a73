-- `eager_push` meets its contract: the sends, and the record's timer behind them.
use Rattle.payloads.proofs.Words.{refl, shown}
use Rattle.block.specs.View.{state_of}
use Rattle.payloads.proofs.AfterLaws.{after-both}
use Rattle.payloads.proofs.EagerPushLaws.SendLaws.{push-parts}
use Rattle.payloads.proofs.eager_push.sends.eager_push.Goals as goal

pub returns : goal.returns
unfolding state_of
returns g c =
    let a = c.args in
    after-both _ _ _ (push-parts a.call.now a.to a.message.now (shown a.view.now) _ a.view.now.head.now.live.announce_dropped_scheduled c.push_sends-back.ensures.back refl)
    _ _ _ c.push_sends-back.ensures.sent c.schedule_announce_dropped.ensures
