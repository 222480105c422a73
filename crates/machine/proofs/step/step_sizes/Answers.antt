-- `step_sizes` meets its contract: each arm is its step.
use Rattle.machine.proofs.Words.{◌≡◌, ap, sym, subst, ◌∙◌, State, settled, shown}
use Rattle.decide.specs.Sizes.{sizes_of}
use Rattle.machine.specs.Kinds.Meaning.{step_state}
use Rattle.machine.specs.declared.kinds.Step.{Step}
use Rattle.machine.specs.Steps.{after_event, Named}
use Rattle.machine.proofs.StepLaws.{settled-consistent, others-sized}
use Rattle.machine.proofs.step.step_sizes.Goals as goal
use Rattle.machine.proofs.step.step_sizes.Goals.{Start}

abbrev shows : Start → State
shows s = shown s.args.view.now

as_step : (s : Start) {r : Step} → s.args.step.now ≡ r → sizes_of (after_event s.args.call.now r (shows s)) ≡ sizes_of (after_event s.args.call.now s.args.step.now (shows s))
as_step s e = ap (λ (r : Step). sizes_of (after_event s.args.call.now r (shows s))) (sym e)

-- what is known of the step that the match tells
known : (s : Start) {r : Step} → s.args.step.now ≡ r → Named s.args.call.now r (shows s)
known s e = subst (λ (r : Step). Named s.args.call.now r (shows s)) e s.requires

pub gossip_sizes-requires : goal.gossip_sizes-requires
gossip_sizes-requires c =
    let k = known (goal.at.gossip_sizes-requires c).Start c.in-NewSwarm.is in
    (k.rest, k.decided)

pub broadcast_sizes-requires : goal.broadcast_sizes-requires
broadcast_sizes-requires c =
    let k = known (goal.at.broadcast_sizes-requires c).Start c.in-Broadcast.is in
    (k.rest, k.decided)

pub ihave_sizes-requires : goal.ihave_sizes-requires
ihave_sizes-requires c =
    let k = known (goal.at.ihave_sizes-requires c).Start c.in-IHave.is in
    record { rest = k.rest; decided = k.decided; few = k.held.few }

pub dispatch_sizes-requires : goal.dispatch_sizes-requires
dispatch_sizes-requires c =
    let k = known (goal.at.dispatch_sizes-requires c).Start c.in-DispatchLazyPush.is in
    (k.rest, k.decided)

pub announce_sizes-requires : goal.announce_sizes-requires
announce_sizes-requires c =
    let k = known (goal.at.announce_sizes-requires c).Start c.in-AnnounceDropped.is in
    (k.rest, k.decided)

pub returns-in-Graft : goal.returns-in-Graft
unfolding step_state
returns-in-Graft c = c.graft_sizes.ensures ∙ as_step (goal.at.returns-in-Graft c).Start c.in-Graft.is

pub returns-in_default : goal.returns-in_default
returns-in_default c =
    let k = c.args.call.now in
    let s = shown c.args.view.now in
    let d = c.in_default in
    c.sizes_then.ensures ∙ others-sized (settled k.instant.0 s) (settled-consistent k.instant.0 s c.requires.rest.consistent) k c.args.step.now d.not-NewSwarm d.not-Graft d.not-IHave d.not-Broadcast d.not-SendGraft d.not-DispatchLazyPush d.not-EvictCache d.not-AnnounceDropped

pub returns-in-NewSwarm : goal.returns-in-NewSwarm
unfolding step_state
returns-in-NewSwarm c = c.gossip_sizes.ensures ∙ as_step (goal.at.returns-in-NewSwarm c).Start c.in-NewSwarm.is

pub returns-in-IHave : goal.returns-in-IHave
unfolding step_state
returns-in-IHave c = c.ihave_sizes.ensures c.in-IHave.link ∙ as_step (goal.at.returns-in-IHave c).Start c.in-IHave.is

pub returns-in-Broadcast : goal.returns-in-Broadcast
unfolding step_state
returns-in-Broadcast c = c.broadcast_sizes.ensures ∙ as_step (goal.at.returns-in-Broadcast c).Start c.in-Broadcast.is

pub returns-in-SendGraft : goal.returns-in-SendGraft
unfolding step_state
returns-in-SendGraft c = c.send_graft_sizes.ensures ∙ as_step (goal.at.returns-in-SendGraft c).Start c.in-SendGraft.is

pub returns-in-DispatchLazyPush : goal.returns-in-DispatchLazyPush
unfolding step_state
returns-in-DispatchLazyPush c = c.dispatch_sizes.ensures ∙ as_step (goal.at.returns-in-DispatchLazyPush c).Start c.in-DispatchLazyPush.is

pub returns-in-EvictCache : goal.returns-in-EvictCache
unfolding step_state
returns-in-EvictCache c = c.evict_sizes.ensures ∙ as_step (goal.at.returns-in-EvictCache c).Start c.in-EvictCache.is

pub returns-in-AnnounceDropped : goal.returns-in-AnnounceDropped
unfolding step_state
returns-in-AnnounceDropped c = c.announce_sizes.ensures ∙ as_step (goal.at.returns-in-AnnounceDropped c).Start c.in-AnnounceDropped.is
