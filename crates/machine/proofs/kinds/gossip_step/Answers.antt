-- `gossip_step`: the tests in turn.
use Rattle.machine.proofs.Words.{ap, Bool, true, false, not, ◌≡◌, refl, sym, ◌∙◌, eqb, identifier, delivery_value, shown}
use Rattle.storage.specs.Rows.Ident.{id_of}
use Rattle.machine.proofs.KindsLaws.MeaningLaws.{means-invalid, means-late, means-new, means-near, gossip-held, valid-of}
use Rattle.machine.proofs.kinds.gossip_step.Goals as goal
use Rattle.machine.proofs.kinds.gossip_step.Goals.{After-ne}

twice : (b : Bool) → not (not b) ≡ b
twice true = refl
twice false = refl

-- the test is of the content
valid : (c : After-ne) →
    eqb (identifier c.args.gossip.content.now)
    (id_of c.args.gossip.id) ≡ not c.ne.result
valid c =
    let a = c.args in
    let r = c.hash in
    valid-of (not c.ne.result) (id_of r.result) (identifier a.gossip.content.now) (id_of a.gossip.id) (ap not c.ne.ensures ∙ twice _) r.ensures

pub returns-then-ne-clause-means : goal.returns-then-ne-clause-means
returns-then-ne-clause-means c =
    let a = c.args in
    means-invalid a.call.now.instant.0 (shown a.view.now) a.sender (id_of a.gossip.id) a.gossip.content.now (delivery_value a.gossip.delivery) c.requires.0.consistent.core
    (valid (goal.at.returns-then-ne-clause-means c).After-ne ∙ ap not c.if-ne.true)

pub returns-then-is_received_then-clause-means : goal.returns-then-is_received_then-clause-means
returns-then-is_received_then-clause-means c =
    let a = c.args in
    means-late a.call.now.instant.0 a.sender a.gossip.id a.gossip.content.now a.gossip.delivery c.late_kind-kind.result
    (valid (goal.at.returns-then-is_received_then-clause-means c).After-ne ∙ ap not c.if-ne.false) (shown a.view.now) c.requires.0.consistent.core (sym c.is_received_then.ensures ∙ c.if-is_received_then.true)
    c.late_kind-kind.ensures.kind c.late_kind-kind.ensures.held

pub returns-in-Swarm-clause-means : goal.returns-in-Swarm-clause-means
returns-in-Swarm-clause-means c =
    let a = c.args in
    means-new a.call.now.instant.0 (shown a.view.now) a.sender a.gossip.id a.gossip.content c.requires.0.consistent.core
    (valid (goal.at.returns-in-Swarm-clause-means c).After-ne ∙ ap not c.if-ne.false) (sym c.is_received_then.ensures ∙ c.if-is_received_then.false)
    (gossip-held (shown a.view.now) (id_of a.gossip.id) a.gossip.content.now (delivery_value a.gossip.delivery) c.requires.0.ranged c.requires.1) c.decide.result
    a.gossip.delivery c.in-Swarm.round c.in-Swarm.is

pub returns-in-Neighbors-clause-means : goal.returns-in-Neighbors-clause-means
returns-in-Neighbors-clause-means c =
    let a = c.args in
    means-near a.call.now.instant.0 (shown a.view.now) a.sender a.gossip.id a.gossip.content c.requires.0.consistent.core
    (valid (goal.at.returns-in-Neighbors-clause-means c).After-ne ∙ ap not c.if-ne.false) (sym c.is_received_then.ensures ∙ c.if-is_received_then.false)
    (gossip-held (shown a.view.now) (id_of a.gossip.id) a.gossip.content.now (delivery_value a.gossip.delivery) c.requires.0.ranged c.requires.1)
    a.gossip.delivery c.in-Neighbors.is
