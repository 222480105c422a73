-- The actions of each kind of step but a dispatch are few and short: contents of an event at most 4,094 bytes, cached ones at most 1,048,576.
-- Assumes nothing.
use Rattle.machine.proofs.Words.{ℕ, suc, ◌+◌, ◌*◌, ◌≤◌, Bool, false, not, ◌&&◌, ◌||◌, List, [], ◌∷◌, ◌++◌, map, arith, eqb, length, if◌then◌else◌, Option, Some, None, is_empty, member, cases, Delivery, Swarm, Ihave, Gossip, SendGraft, DispatchLazyPush, EvictCache, AnnounceDropped, Scheduled, Emitted, Forgotten, is_neighbour, eager_in, State, Hop, Cached, Room}
use Rattle.storage.specs.Lists.Map.{keys}
use Rattle.time_cache.specs.TimeCache.{get, holds, expired_keys}
use Rattle.protocol.specs.Push.{eager_targets}
use Rattle.protocol.specs.Gossips.{announcers, grafted_for, graft_out, least_from, far_closer, Late, duplicate, repeated, faster}
use Rattle.protocol.specs.Ticks.{oldest, younger, still_cached}
use Rattle.decide.specs.Rooms.{kth_taken, first_send, back_peers}
use Rattle.decide.specs.RecordGrowth.{announce_action, push_actions}
use Rattle.decide.specs.Settled.{forgotten_actions, settled_actions}
use Rattle.decide.specs.Lengths.{action_length}
use Rattle.time_cache.proofs.GoneLaws.{expired-few}
use Rattle.decide.specs.NewIds.{new_ids, known_timer}
use Rattle.decide.proofs.SizesAfter.{content_length}
use Rattle.decide.specs.ActionsAfter.{evict_actions, dispatch_action, announce_actions, reply_actions, graft_actions, ask_actions, send_graft_actions, ihave_actions, broadcast_actions, late_actions, optimise_actions, new_actions}
use Rattle.machine.proofs.BoundsLaws.Light.{Light, light-none, light-more, light-cons, light-one, light-then, light-if, light-each}
use Rattle.machine.proofs.BoundsLaws.ActionLengths.{scheduled-few, emitted-few, gossip-few, prune-few, graft-few}
use Rattle.machine.proofs.BoundsLaws.Small.{Small, cached-few, targets-few}

-- an action 4 for each of at most 1,024 expiry entries
told-light : (now : ℕ) (s : State) → Small s → Light 33792 (forgotten_actions now s)
unfolding forgotten_actions action_length
told-light now s small = light-more (light-each (λ id. Forgotten id) 33 (λ id. omega arith) (expired_keys now s.cache)) (omega (arith, expired-few now s.cache, small.rows))

pub evict-light : (now : ℕ) (s : State) → Small s → Light 33836 (evict_actions now s)
unfolding evict_actions
evict-light now s small = light-then (told-light now s small) (light-one (scheduled-few s.settings.cache_evict_interval EvictCache))

pub settled-light : (now : ℕ) (s : State) → Small s → Light 33836 (settled_actions now s)
unfolding settled_actions
settled-light now s small = light-if s.init light-none (light-then (told-light now s small) (light-one (scheduled-few s.settings.cache_evict_interval EvictCache)))

timer-light : (s : State) → Light 44 (dispatch_action s)
unfolding dispatch_action
timer-light s = light-if s.timers.dispatch light-none (light-one (scheduled-few s.settings.dispatch_timeout DispatchLazyPush))

record-light : (stands flag : Bool) → Light 44 (announce_action stands flag)
unfolding announce_action
record-light stands flag = light-if (stands && not flag) (light-one (scheduled-few 1000 AnnounceDropped)) light-none

pub announce-light : (s : State) → Light 88 (announce_actions s)
unfolding announce_actions
announce-light s =
    light-then
    (light-if (is_empty (s.queue ++ oldest [] (still_cached s))) light-none (timer-light s))
    (record-light (not (is_empty (younger [] (still_cached s)))) false)

-- the same Gossip to each of these peers, at most m bytes each
sends-light : (rooms : List Room) (id : ℕ) (content : List ℕ) (d : Delivery) (ps : List ℕ) (m : ℕ) → 66 + length content ≤ m
    → Light (length ps * m) (map (first_send rooms (Gossip id content d)) ps)
unfolding first_send
sends-light rooms id content d ps m h = light-each (first_send rooms (Gossip id content d)) m (λ p. omega (arith, gossip-few p (kth_taken 1 p rooms) id content d)) ps

push-light : (rooms : List Room) (id : ℕ) (content : List ℕ) (d : Delivery) (ps : List ℕ) (flag : Bool) (m : ℕ) → 66 + length content ≤ m
    → Light (length ps * m + 44) (push_actions rooms (Gossip id content d) ps flag)
unfolding push_actions
push-light rooms id content d ps flag m h = light-then (sends-light rooms id content d ps m h) (record-light (not (is_empty (back_peers rooms ps))) flag)

reply-light : (rooms : List Room) (sender id : ℕ) (o : Option Cached) (s : State) → content_length o ≤ 1048576 → Light 1100000 (reply_actions rooms sender id o s)
unfolding reply_actions content_length
reply-light rooms sender id None s h = light-none
reply-light rooms sender id (Some c) s h =
    light-more (push-light rooms id c.content (Swarm c.round) (sender ∷ []) s.timers.announce 1048642 (omega arith)) (omega arith)

pub graft-light : (rooms : List Room) (sender : ℕ) (wanted : Option ℕ) (s : State) → Small s → Light 1100000 (graft_actions rooms sender wanted s)
unfolding graft_actions
graft-light rooms sender None s small = light-none
graft-light rooms sender (Some id) s small = reply-light rooms sender id (get id s.cache) s (cached-few id s small)

ask-light : (rooms : List Room) (id : ℕ) (hs : List Hop) (s : State) → Light 100 (ask_actions rooms id hs s)
unfolding ask_actions first_send
ask-light rooms id [] s = light-none
ask-light rooms id (h ∷ hs) s =
    light-cons {m = 56} {n = 44} (graft-few h.peer (kth_taken 1 h.peer rooms) (Some id) h.round) (light-one (scheduled-few s.settings.graft_timeout_2 (SendGraft id)))

pub send-graft-light : (rooms : List Room) (id : ℕ) (s : State) → Light 100 (send_graft_actions rooms id s)
unfolding send_graft_actions
send-graft-light rooms id s = light-if (holds id s.received) light-none (ask-light rooms id (announcers id s) s)

new-few : (known : ℕ → Bool) (seen : List ℕ) (hs : List Ihave) → length (new_ids known seen hs) ≤ length hs
unfolding new_ids
new-few known seen [] = omega arith
new-few known seen (h ∷ hs) =
    cases (known h.id || member h.id seen)
    (λ e. rw e (omega (arith, new-few known (h.id ∷ seen) hs)))
    (λ e. rw e (omega (arith, new-few known (h.id ∷ seen) hs)))

pub ihave-light : (hs : List Ihave) (s : State) → length hs ≤ 4094 → Light 180136 (ihave_actions hs s)
unfolding ihave_actions
ihave-light hs s h =
    light-more (light-each (λ i. Scheduled s.settings.graft_timeout_1 (SendGraft i)) 44 (λ i. scheduled-few s.settings.graft_timeout_1 (SendGraft i)) (new_ids (known_timer s) [] hs))
    (omega (arith, new-few (known_timer s) [] hs))

pub broadcast-light : (rooms : List Room) (id : ℕ) (content : List ℕ) (s : State) → Small s → length content ≤ 4094 → Light 133208 (broadcast_actions rooms id content s)
unfolding broadcast_actions
broadcast-light rooms id content s small h =
    light-more
    (light-then (timer-light s) (push-light rooms id content (Swarm 0) (eager_targets s.settings.me [] s) s.timers.announce 4160 (omega arith)))
    (omega (arith, targets-few s.settings.me [] s small))

pub late-light : (rooms : List Room) (sender : ℕ) (k : Late) → Light 13 (late_actions rooms sender k)
unfolding late_actions first_send
late-light rooms sender duplicate = light-one (prune-few sender (kth_taken 1 sender rooms))
late-light rooms sender repeated = light-none
late-light rooms sender (faster first) = light-one (prune-few first (kth_taken 1 first rooms))

optimise-light : (rooms : List Room) (sender round : ℕ) (hs : List Hop) (s : State) → Light 69 (optimise_actions rooms sender round hs s)
unfolding optimise_actions first_send
optimise-light rooms sender round [] s = light-none
optimise-light rooms sender round (h ∷ hs) s =
    let best : Hop = least_from h hs in
    light-if (far_closer s.settings.optimization_threshold round best.round)
    (light-if (eager_in best.peer s.links)
    (light-more (light-one (prune-few sender (kth_taken 1 sender rooms))) (omega arith))
    (light-cons {m = 56} {n = 13} (graft-few best.peer (kth_taken 1 best.peer rooms) None best.round)
    (light-one (prune-few sender (kth_taken (if eqb sender best.peer then 2 else 1) sender rooms)))))
    light-none

pub new-light : (rooms : List Room) (sender id : ℕ) (content : List ℕ) (round : ℕ) (s : State) → Small s → length content ≤ 4094 → Light 137403 (new_actions rooms sender id content round s)
unfolding new_actions
new-light rooms sender id content round s small h =
    light-more
    (light-then
    (light-then
    (light-then
    (push-light rooms id content (Swarm (suc round)) (eager_targets sender (keys (grafted_for id s)) s) s.timers.announce 4160 (omega arith))
    (timer-light s))
    (light-if (is_neighbour sender s.links && not (graft_out sender round (grafted_for id s))) (optimise-light rooms sender (suc round) (announcers id s) s) light-none))
    (light-one (emitted-few sender content (Swarm round))))
    (omega (arith, targets-few sender (keys (grafted_for id s)) s small))

pub emit-light : (sender : ℕ) (content : List ℕ) (d : Delivery) → length content ≤ 4094 → Light 4126 (Emitted sender content d ∷ [])
emit-light sender content d h = light-more (light-one (emitted-few sender content d)) (omega arith)
