-- `step_state` meets its contract: each arm is its step.
use Rattle.machine.proofs.Words.{◌≡◌, sym, refl, subst, eqb-false, state, Goes}
use Rattle.block.specs.declared.panel.Panel.{Panel}
use Rattle.machine.specs.Kinds.Meaning.{step_state, step_far}
use Rattle.machine.specs.declared.kinds.Step.{Step}
use Rattle.machine.specs.Steps.{after_step, Ready}
use Rattle.announcements.proofs.OnDispatchLaws.StateLaws.{noted-room}
use Rattle.machine.proofs.StepLaws.{others-still}
use Rattle.machine.proofs.step.step_state.Goals as goal
use Rattle.machine.proofs.step.step_state.Goals.{Start}

-- what the match tells of the step
known : (s : Start) {r : Step} → s.args.step.now ≡ r → Ready s.args.call.now r (state s.args.panel.now)
known s e = subst (λ (r : Step). Ready s.args.call.now r (state s.args.panel.now)) e s.requires

-- the state goes the step's way where it goes that of what the match tells
goes : (s : Start) {r : Step} {q : Panel} → s.args.step.now ≡ r → Goes (after_step s.args.call.now r) s.args.panel.now q → Goes (after_step s.args.call.now s.args.step.now) s.args.panel.now q
goes s {r} {q} e = subst (λ (step : Step). Goes (after_step s.args.call.now step) s.args.panel.now q) (sym e)

pub on_gossip-requires : goal.on_gossip-requires
unfolding step_state step_far
on_gossip-requires c =
    let k = known (goal.at.on_gossip-requires c).Start c.in-NewSwarm.is in
    let near = eqb-false c.in-NewSwarm.message.round.0 65535 k.near in
    record { allowed = (record { rest = k.allowed.rest; fits = k.allowed.fits }, k.begun); decided = k.decided; ranges = (near, k.early) }

pub on_late_graft_reply-requires : goal.on_late_graft_reply-requires
on_late_graft_reply-requires c =
    let k = known (goal.at.on_late_graft_reply-requires c).Start c.in-Late.is in
    (k.allowed.rest, k.begun, k.held)

pub on_graft-requires : goal.on_graft-requires
unfolding step_state
on_graft-requires c =
    let k = known (goal.at.on_graft-requires c).Start c.in-Graft.is in
    (record { rest = k.allowed.rest; fits = k.allowed.fits }, k.held)

pub on_ihave-requires : goal.on_ihave-requires
unfolding step_state
on_ihave-requires c =
    let k = known (goal.at.on_ihave-requires c).Start c.in-IHave.is in
    record { allowed = (record { rest = k.allowed.rest; fits = k.allowed.fits }, k.held.there); decided = k.decided; few = k.held.few }

pub broadcast-requires : goal.broadcast-requires
unfolding step_state
broadcast-requires c =
    let k = known (goal.at.broadcast-requires c).Start c.in-Broadcast.is in
    (record { rest = k.allowed.rest; fits = k.allowed.fits }, k.decided, k.early)

pub on_send_graft_timer-requires : goal.on_send_graft_timer-requires
unfolding step_state
on_send_graft_timer-requires c =
    let k = known (goal.at.on_send_graft_timer-requires c).Start c.in-SendGraft.is in
    record { step = record { rest = k.allowed.rest; fits = k.allowed.fits }; early = k.early }

pub on_dispatch_timer-requires : goal.on_dispatch_timer-requires
unfolding step_state
on_dispatch_timer-requires c =
    let k = known (goal.at.on_dispatch_timer-requires c).Start c.in-DispatchLazyPush.is in
    record { rows = k.decided.among; room = noted-room c.args.call.now (state c.args.panel.now) c.in-DispatchLazyPush.noted.now k.allowed.fits k.decided }

pub on_announce_dropped_timer-requires : goal.on_announce_dropped_timer-requires
unfolding step_state
on_announce_dropped_timer-requires c =
    let k = known (goal.at.on_announce_dropped_timer-requires c).Start c.in-AnnounceDropped.is in
    record { step = record { rest = k.allowed.rest; fits = k.allowed.fits }; cached = k.decided }

pub returns-in-Graft : goal.returns-in-Graft
unfolding step_state
returns-in-Graft c = goes (goal.at.returns-in-Graft c).Start c.in-Graft.is c.on_graft.ensures

pub returns-in_default : goal.returns-in_default
returns-in_default c =
    let d = c.in_default in
    record {
      state = others-still c.args.call.now c.args.step.now (state c.args.panel.now) d.not-NewSwarm d.not-Late d.not-Prune d.not-Graft d.not-IHave d.not-Broadcast d.not-SendGraft d.not-DispatchLazyPush d.not-EvictCache d.not-AnnounceDropped;
      loan = refl;
    }

pub returns-in-NewSwarm : goal.returns-in-NewSwarm
unfolding step_state
returns-in-NewSwarm c = goes (goal.at.returns-in-NewSwarm c).Start c.in-NewSwarm.is c.on_gossip.ensures

pub returns-in-Late : goal.returns-in-Late
unfolding step_state
returns-in-Late c = goes (goal.at.returns-in-Late c).Start c.in-Late.is c.on_late_graft_reply.ensures

pub returns-in-Prune : goal.returns-in-Prune
unfolding step_state
returns-in-Prune c = goes (goal.at.returns-in-Prune c).Start c.in-Prune.is (record { state = c.on_prune.ensures.state; loan = c.on_prune.ensures.loan })

pub returns-in-IHave : goal.returns-in-IHave
unfolding step_state
returns-in-IHave c = goes (goal.at.returns-in-IHave c).Start c.in-IHave.is c.on_ihave.ensures

pub returns-in-Broadcast : goal.returns-in-Broadcast
unfolding step_state
returns-in-Broadcast c = goes (goal.at.returns-in-Broadcast c).Start c.in-Broadcast.is c.broadcast.ensures

pub returns-in-SendGraft : goal.returns-in-SendGraft
unfolding step_state
returns-in-SendGraft c = goes (goal.at.returns-in-SendGraft c).Start c.in-SendGraft.is c.on_send_graft_timer.ensures

pub returns-in-DispatchLazyPush : goal.returns-in-DispatchLazyPush
unfolding step_state
returns-in-DispatchLazyPush c =
    let s = (goal.at.returns-in-DispatchLazyPush c).Start in
    goes s c.in-DispatchLazyPush.is (c.on_dispatch_timer.ensures c.args.call.now (known s c.in-DispatchLazyPush.is).decided)

pub returns-in-EvictCache : goal.returns-in-EvictCache
unfolding step_state
returns-in-EvictCache c = goes (goal.at.returns-in-EvictCache c).Start c.in-EvictCache.is c.on_evict_cache_timer.ensures

pub returns-in-AnnounceDropped : goal.returns-in-AnnounceDropped
unfolding step_state
returns-in-AnnounceDropped c = goes (goal.at.returns-in-AnnounceDropped c).Start c.in-AnnounceDropped.is c.on_announce_dropped_timer.ensures
