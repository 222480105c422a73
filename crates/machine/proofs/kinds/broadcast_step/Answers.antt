-- `broadcast_step`: by its size.
use Rattle.machine.proofs.Words.{ap, ◌≡◌, sym, ◌∙◌, not, ltb, length, not-false, shown}
use Rattle.postcard.specs.Sizes.{gossip_size}
use Rattle.block.specs.View.{state_of}
use Rattle.machine.proofs.KindsLaws.MeaningLaws.{means-oversize, means-broadcast, broadcast-held, over-of}
use Rattle.machine.proofs.kinds.broadcast_step.Goals as goal
use Rattle.machine.proofs.kinds.broadcast_step.Goals.{After-broadcast_fits}

-- the size test, of the content
over : (c : After-broadcast_fits) →
    ltb (shown c.args.view.now).settings.max_message_size
    (gossip_size (length c.args.content.now))
    ≡ not c.broadcast_fits.result
unfolding state_of
over c =
    let a = c.args in
    over-of (shown a.view.now) (length a.content.now) c.broadcast_fits.result (sym c.broadcast_fits.ensures)

pub returns-then-not-broadcast_fits-clause-means : goal.returns-then-not-broadcast_fits-clause-means
returns-then-not-broadcast_fits-clause-means c =
    let a = c.args in
    means-oversize a.call.now.instant.0 (shown a.view.now) a.content.now c.requires.consistent.core (over (goal.at.returns-then-not-broadcast_fits-clause-means c).After-broadcast_fits ∙ (ap not c.if-not-broadcast_fits.true))

pub returns-clause-means : goal.returns-clause-means
unfolding state_of
returns-clause-means c =
    let f = c.broadcast_fits in
    let a = c.args in
    means-broadcast a.call.now.instant.0 (shown a.view.now) c.hash-id.result a.content c.decide_own_push-push.result c.requires.consistent.core
    c.hash-id.ensures
    (broadcast-held (shown a.view.now) a.content.now c.requires.ranged (sym f.ensures ∙ not-false f.result (ap not c.if-not-broadcast_fits.false)))
    (over (goal.at.returns-clause-means c).After-broadcast_fits ∙ (ap not c.if-not-broadcast_fits.false))
