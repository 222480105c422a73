-- `Actions::encode` meets its contract: a first event's, then the step's by its kind.
use Rattle.machine.proofs.Words.{◌≡◌, sym, ap, ◌∙◌, ℕ, List, subst, eqb-false, Neighbors, Emitted, settled, shown}
use Rattle.wire.specs.Encode.Intake.{Intake, after}
use Rattle.steps.proofs.ActionLaws.{one-action, no-action}
use Rattle.machine.specs.Kinds.Meaning.{StepHeld, StepDecided, SenderIs, step_actions, step_far}
use Rattle.machine.specs.Steps.{event_bytes}
use Rattle.machine.specs.declared.kinds.Step.{Step}
use Rattle.machine.proofs.ActionsLaws.{step_bytes, step-done, none-done}
use Rattle.machine.proofs.actions.ActionsEncode.encode.Goals as goal
use Rattle.machine.proofs.actions.ActionsEncode.encode.Goals.{After-first_event_actions}

-- once a first event's actions are written: the step's, by what the match tells of it
module _ (g : _) (d : After-first_event_actions g) where
  abbrev stands : Intake
  stands = g.S.Sink.intake d.first_event_actions.new.out

  abbrev bytes_of : Step → List ℕ
  bytes_of r = step_bytes d.args.self.now.call.now r (settled d.args.self.now.call.now.instant.0 (shown d.args.self.now.view.now))

  as-step : {r : Step} → d.args.self.now.step.now ≡ r → bytes_of d.args.self.now.step.now ≡ bytes_of r
  as-step = ap bytes_of

  done : {bs : List ℕ} {k : Intake} → bytes_of d.args.self.now.step.now ≡ bs → k ≡ after bs stands
      → k ≡ after (event_bytes d.args.self.now.call.now d.args.self.now.step.now (shown d.args.self.now.view.now)) (g.S.Sink.intake d.args.out.now)
  done e p =
      let a = d.args.self.now in
      step-done a.call.now a.step.now (shown a.view.now) (g.S.Sink.intake d.args.out.now) stands _ _ e d.first_event_actions.ensures p

pub gossip_actions-requires : goal.gossip_actions-requires
unfolding step_far
gossip_actions-requires g c =
    let a = c.args.self.now in
    let far = sym (ap step_far c.in-NewSwarm.is) ∙ a.near in
    record { rest = (a.rest, eqb-false c.in-NewSwarm.message.round.0 65535 far); decided = subst (λ (r : Step). StepDecided a.call.now r (settled a.call.now.instant.0 (shown a.view.now))) c.in-NewSwarm.is a.decided }

pub returns-in-NewSwarm : goal.returns-in-NewSwarm
unfolding step_actions step_far
returns-in-NewSwarm g c =
    let d = (goal.at.returns-in-NewSwarm g c).After-first_event_actions in
    done g d (as-step g d c.in-NewSwarm.is) c.gossip_actions.ensures

pub returns-in-NewNeighbors : goal.returns-in-NewNeighbors
unfolding step_actions
returns-in-NewNeighbors g c =
    let d = (goal.at.returns-in-NewNeighbors g c).After-first_event_actions in
    done g d (as-step g d c.in-NewNeighbors.is ∙ one-action (Emitted c.in-NewNeighbors.sender c.in-NewNeighbors.content.now Neighbors)) c.neighbors_actions.ensures

pub late_actions-requires : goal.late_actions-requires
late_actions-requires g c =
    let a = c.args.self.now in
    record { rest = (a.rest, subst (λ (r : Step). SenderIs a.call.now.peer r) c.in-Late.is a.sender, subst (λ (r : Step). StepHeld (shown a.view.now) r) c.in-Late.is a.held) }

pub returns-in-Late : goal.returns-in-Late
unfolding step_actions
returns-in-Late g c =
    let d = (goal.at.returns-in-Late g c).After-first_event_actions in
    done g d (as-step g d c.in-Late.is) c.late_actions.ensures

pub graft_actions-requires : goal.graft_actions-requires
graft_actions-requires g c = let a = c.args.self.now in record { rest = (a.rest, subst (λ (r : Step). StepHeld (shown a.view.now) r) c.in-Graft.is a.held) }

pub returns-in-Graft : goal.returns-in-Graft
unfolding step_actions
returns-in-Graft g c =
    let d = (goal.at.returns-in-Graft g c).After-first_event_actions in
    done g d (as-step g d c.in-Graft.is) c.graft_actions.ensures

pub ihave_actions-requires : goal.ihave_actions-requires
ihave_actions-requires g c =
    let a = c.args.self.now in
    subst (λ (r : Step). StepDecided a.call.now r (settled a.call.now.instant.0 (shown a.view.now))) c.in-IHave.is a.decided

pub returns-in-IHave : goal.returns-in-IHave
unfolding step_actions
returns-in-IHave g c =
    let d = (goal.at.returns-in-IHave g c).After-first_event_actions in
    done g d (as-step g d c.in-IHave.is) c.ihave_actions.ensures

pub broadcast_actions-requires : goal.broadcast_actions-requires
broadcast_actions-requires g c =
    let a = c.args.self.now in
    record { rest = (a.rest, subst (λ (r : Step). StepDecided a.call.now r (settled a.call.now.instant.0 (shown a.view.now))) c.in-Broadcast.is a.decided) }

pub returns-in-Broadcast : goal.returns-in-Broadcast
unfolding step_actions
returns-in-Broadcast g c =
    let d = (goal.at.returns-in-Broadcast g c).After-first_event_actions in
    done g d (as-step g d c.in-Broadcast.is) c.broadcast_actions.ensures

pub returns-in-SendGraft : goal.returns-in-SendGraft
unfolding step_actions
returns-in-SendGraft g c =
    let d = (goal.at.returns-in-SendGraft g c).After-first_event_actions in
    done g d (as-step g d c.in-SendGraft.is) c.send_graft_actions.ensures

pub returns-in-DispatchLazyPush : goal.returns-in-DispatchLazyPush
unfolding step_actions
returns-in-DispatchLazyPush g c =
    let d = (goal.at.returns-in-DispatchLazyPush g c).After-first_event_actions in
    done g d (as-step g d c.in-DispatchLazyPush.is) c.dispatch_actions.ensures

pub returns-in-EvictCache : goal.returns-in-EvictCache
unfolding step_actions
returns-in-EvictCache g c =
    let d = (goal.at.returns-in-EvictCache g c).After-first_event_actions in
    done g d (as-step g d c.in-EvictCache.is) c.evict_actions.ensures

pub announce_actions-requires : goal.announce_actions-requires
announce_actions-requires g c =
    let a = c.args.self.now in
    record { rest = a.rest; cached = subst (λ (r : Step). StepDecided a.call.now r (settled a.call.now.instant.0 (shown a.view.now))) c.in-AnnounceDropped.is a.decided }

pub returns-in-AnnounceDropped : goal.returns-in-AnnounceDropped
unfolding step_actions
returns-in-AnnounceDropped g c =
    let d = (goal.at.returns-in-AnnounceDropped g c).After-first_event_actions in
    done g d (as-step g d c.in-AnnounceDropped.is) c.announce_actions.ensures

-- no action
pub returns-in-Prune : goal.returns-in-Prune
unfolding step_actions
returns-in-Prune g c =
    let d = (goal.at.returns-in-Prune g c).After-first_event_actions in
    let a = c.args.self.now in
    none-done a.call.now a.step.now (shown a.view.now) (g.S.Sink.intake c.args.out.now) (stands g d) (as-step g d c.in-Prune.is ∙ no-action) c.first_event_actions.ensures

pub returns-in-Nothing : goal.returns-in-Nothing
unfolding step_actions
returns-in-Nothing g c =
    let d = (goal.at.returns-in-Nothing g c).After-first_event_actions in
    let a = c.args.self.now in
    none-done a.call.now a.step.now (shown a.view.now) (g.S.Sink.intake c.args.out.now) (stands g d) (as-step g d c.in-Nothing.is ∙ no-action) c.first_event_actions.ensures
