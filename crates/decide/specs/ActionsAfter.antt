-- The actions of an event, as functions of the state before it; `s` is the state that a first event leaves (`settled`) unless a comment says otherwise. Proved equal (`decide-actions`).
use Rattle.std.specs.Prelude.{ℕ, suc, false, not, ◌&&◌, List, [], ◌∷◌, ◌++◌, map, ltb, eqb, length, if◌then◌else◌, Option, Some, None}
use Rattle.storage.specs.Lists.Base.{is_empty}
use Rattle.storage.specs.Lists.Map.{keys}
use Rattle.time_cache.specs.TimeCache.{holds, get}
use Rattle.protocol.specs.Links.{is_neighbour, eager_in}
use Rattle.postcard.specs.Message.{Delivery, Swarm, Neighbors, Ihave, Message, Gossip, Prune, Graft, IHave, Timer, SendGraft, DispatchLazyPush, EvictCache, AnnounceDropped, Event, Received, Broadcast, Fired, Up, Down, Action, Sent, Scheduled, Emitted}
use Rattle.protocol.specs.State.{State, Hop, Cached}
use Rattle.protocol.specs.Run.{Room}
use Rattle.protocol.specs.Push.{eager_targets}
use Rattle.protocol.specs.Gossips.{announcers, grafted_for, graft_out, least_from, far_closer, Late, duplicate, repeated, faster, late_kind, gossip_size}
use Rattle.protocol.specs.Ticks.{per_message, queued_peers, oldest, younger, still_cached}
use Rattle.decide.specs.Rooms.{kth_taken, first_send}
use Rattle.decide.specs.Settled.{settled, forgotten_actions, settled_actions}
use Rattle.decide.specs.RecordGrowth.{cached_in, announce_action, push_actions}
use Rattle.decide.specs.Pieces.{pieces, piece_actions}
use Rattle.decide.specs.NewIds.{new_ids, known_timer}

-- EvictCache
unfoldable pub evict_actions : ℕ → State → List Action
evict_actions now s = forgotten_actions now s ++ (Scheduled s.settings.cache_evict_interval EvictCache ∷ [])

-- a dispatch timer, unless flagged
unfoldable pub dispatch_action : State → List Action
dispatch_action s = if s.timers.dispatch then [] else Scheduled s.settings.dispatch_timeout DispatchLazyPush ∷ []

-- AnnounceDropped: dispatch if a queue stands, then itself if a record does; its flag is clear
unfoldable pub announce_actions : State → List Action
announce_actions s =
    (if is_empty (s.queue ++ oldest [] (still_cached s)) then [] else dispatch_action s)
    ++ announce_action (not (is_empty (younger [] (still_cached s)))) false

-- the reply to a Graft, given what is cached for the identifier
unfoldable pub reply_actions : List Room → ℕ → ℕ → Option Cached → State → List Action
reply_actions rooms sender id None s = []
reply_actions rooms sender id (Some c) s = push_actions rooms (Gossip id c.content (Swarm c.round)) (sender ∷ []) s.timers.announce

-- Graft from a neighbour
unfoldable pub graft_actions : List Room → ℕ → Option ℕ → State → List Action
graft_actions rooms sender None s = []
graft_actions rooms sender (Some id) s = reply_actions rooms sender id (get id s.cache) s

-- the first announcer is asked
unfoldable pub ask_actions : List Room → ℕ → List Hop → State → List Action
ask_actions rooms id [] s = []
ask_actions rooms id (h ∷ hs) s = first_send rooms (Graft (Some id) h.round) h.peer ∷ Scheduled s.settings.graft_timeout_2 (SendGraft id) ∷ []

-- SendGraft
unfoldable pub send_graft_actions : List Room → ℕ → State → List Action
send_graft_actions rooms id s = if holds id s.received then [] else ask_actions rooms id (announcers id s) s

-- IHave from a neighbour: one timer for each identifier that had none
unfoldable pub ihave_actions : List Ihave → State → List Action
ihave_actions hs s = map (λ i. Scheduled s.settings.graft_timeout_1 (SendGraft i)) (new_ids (known_timer s) [] hs)

-- a broadcast of size at most M
unfoldable pub broadcast_actions : List Room → ℕ → List ℕ → State → List Action
broadcast_actions rooms id content s =
    dispatch_action s ++ push_actions rooms (Gossip id content (Swarm 0)) (eager_targets s.settings.me [] s) s.timers.announce

-- "Received before"
unfoldable pub late_actions : List Room → ℕ → Late → List Action
late_actions rooms sender duplicate = first_send rooms Prune sender ∷ []
late_actions rooms sender repeated = []
late_actions rooms sender (faster first) = first_send rooms Prune first ∷ []

-- "Graft without identifier unless eager, then sender lazy, Prune": the Prune is the second send to the sender if the Graft went there too
unfoldable pub optimise_actions : List Room → ℕ → ℕ → List Hop → State → List Action
optimise_actions rooms sender round [] s = []
optimise_actions rooms sender round (h ∷ hs) s =
    if far_closer s.settings.optimization_threshold round (least_from h hs).round then
    if eager_in (least_from h hs).peer s.links then first_send rooms Prune sender ∷ []
    else first_send rooms (Graft None (least_from h hs).round) (least_from h hs).peer
    ∷ Sent sender (kth_taken (if eqb sender (least_from h hs).peer then 2 else 1) sender rooms) Prune ∷ []
    else []

-- a new Swarm message of round `round`
unfoldable pub new_actions : List Room → ℕ → ℕ → List ℕ → ℕ → State → List Action
new_actions rooms sender id content round s =
    push_actions rooms (Gossip id content (Swarm (suc round))) (eager_targets sender (keys (grafted_for id s)) s) s.timers.announce
    ++ dispatch_action s
    ++ (if is_neighbour sender s.links && not (graft_out sender round (grafted_for id s)) then optimise_actions rooms sender (suc round) (announcers id s) s else [])
    ++ (Emitted sender content (Swarm round) ∷ [])

-- DispatchLazyPush
unfoldable pub dispatch_actions : List Room → State → List Action
dispatch_actions rooms s = piece_actions (cached_in s.cache) rooms s.timers.announce (pieces (queued_peers s.queue) (per_message s.settings.max_message_size) s.queue)

module _ (hash : List ℕ → ℕ) where
  -- a Gossip, valid or not, received before or new
  unfoldable pub gossip_actions : List Room → ℕ → ℕ → List ℕ → Delivery → State → List Action
  gossip_actions rooms sender id content (Swarm round) s =
      if not (eqb (hash content) id) then []
      else if holds id s.received then late_actions rooms sender (late_kind sender (Swarm round) s.links (get id s.grafted))
      else new_actions rooms sender id content round s
  gossip_actions rooms sender id content Neighbors s =
      if not (eqb (hash content) id) then []
      else if holds id s.received then late_actions rooms sender (late_kind sender Neighbors s.links (get id s.grafted))
      else Emitted sender content Neighbors ∷ []

  -- a received message; "from strangers are counted only"
  unfoldable pub message_actions : List Room → ℕ → Message → State → List Action
  message_actions rooms sender (Gossip id content d) s = gossip_actions rooms sender id content d s
  message_actions rooms sender Prune s = []
  message_actions rooms sender (Graft wanted round) s = if is_neighbour sender s.links then graft_actions rooms sender wanted s else []
  message_actions rooms sender (IHave hs) s = if is_neighbour sender s.links then ihave_actions hs s else []

  -- a timer
  unfoldable pub timer_actions : List Room → ℕ → Timer → State → List Action
  timer_actions rooms now (SendGraft id) s = send_graft_actions rooms id s
  timer_actions rooms now DispatchLazyPush s = dispatch_actions rooms s
  timer_actions rooms now EvictCache s = evict_actions now s
  timer_actions rooms now AnnounceDropped s = announce_actions s

  -- the actions of the call, of the state before it (question 14)
  unfoldable pub actions_after : List Room → ℕ → Event → State → List Action
  actions_after rooms now (Received p m) s = settled_actions now s ++ message_actions rooms p m (settled now s)
  actions_after rooms now (Broadcast content) s =
      settled_actions now s ++ (if ltb s.settings.max_message_size (gossip_size (length content)) then [] else broadcast_actions rooms (hash content) content (settled now s))
  actions_after rooms now (Fired t) s = settled_actions now s ++ timer_actions rooms now t (settled now s)
  actions_after rooms now (Up as_quiet p) s = []
  actions_after rooms now (Down p) s = []
