-- "`note_dropped` came to it for this neighbour while this neighbour had 256 or all had 4,096": an account of the notings of a call, kept beside its run. A name with ' is the step of that
-- name, line for line, with the account; a step in which nothing is noted is the protocol's own (`plain`). `MetFullExact` says that the run is `handle`'s, and what the account has to do with `met_full`.
use Rattle.std.specs.Prelude.{ℕ, suc, ◌≡◌, true, false, not, List, [], ◌∷◌, ◌++◌, ◌⊎◌, ltb, eqb, length, if◌then◌else◌, Option, Some, None}
use Rattle.storage.specs.Lists.Base.{◌▷◌, any}
use Rattle.storage.specs.Lists.Map.{keys}
use Rattle.time_cache.specs.TimeCache.{get, holds}
use Rattle.postcard.specs.Message.{Delivery, Swarm, Neighbors, Ihave, Message, Gossip, Prune, Graft, IHave, Timer, SendGraft, DispatchLazyPush, EvictCache, AnnounceDropped, Event, Received, Broadcast, Fired, Up, Down}
use Rattle.protocol.specs.Links.{is_neighbour, add_eager}
use Rattle.protocol.specs.State.{State, Counts, Note, Cached, with_queue}
use Rattle.protocol.specs.Run.{Run, Room, begin, with_state, with_counts, takes, send, emit}
use Rattle.protocol.specs.Push.{notes, record_full, schedule_announce_dropped, note_one, send_each, handed_back, eager_targets, lazy_push}
use Rattle.protocol.specs.Gossips.{mark_received, cache_at, grafted_for, set_first, raise_hops, update_links, forget_and_optimise, on_late_graft_reply, gossip_size}
use Rattle.protocol.specs.Control.{on_ihave, on_prune, on_send_graft_timer}
use Rattle.protocol.specs.Ticks.{per_message, chunks, queued_for, queued_peers, clear_dispatch, on_announce_dropped_timer, on_evict_cache_timer}
use Rattle.protocol.specs.Neighbours.{on_neighbor_up, on_neighbor_down}
use Rattle.protocol.specs.Handle.{first_event, count_message, if_neighbour, handle}
use Rattle.protocol.specs.Whole.{whole}
use Rattle.protocol.specs.Answer.{accept}
use Rattle.protocol.specs.NoNeighbourPassedOver.{carries, sends, was_handed_back, met_full}

-- `note_dropped` comes to an identifier for a neighbour: the state as it stands then
pub record Coming : Type 0 where
  pub peer : ℕ
  pub id : ℕ
  pub state : State

-- a call under way, and what `note_dropped` came to in it so far, in order
pub record Account : Type 0 where
  pub run : Run
  pub comings : List Coming

-- a step in which nothing is noted
abbrev pub plain : (Run → Run) → Account → Account
plain step a = record { run = step a.run; comings = a.comings }

-- it comes to one identifier: the only step by which the account grows
unfoldable pub note_one' : ℕ → Ihave → Account → Account
note_one' p h a = record { run = note_one p h a.run; comings = a.comings ++ (record { peer = p; id = h.id; state = a.run.state } ∷ []) }

-- `note_each`
unfoldable pub note_each' : ℕ → List Ihave → Account → Account
note_each' p [] a = a
note_each' p (h ∷ hs) a = note_each' p hs (note_one' p h a)

-- `note_dropped`
unfoldable pub note_dropped' : ℕ → List Ihave → Account → Account
note_dropped' p hs a = if is_neighbour p a.run.state.links then plain schedule_announce_dropped (note_each' p hs a) else a

-- `note_for_each`
unfoldable pub note_for_each' : List ℕ → Ihave → Account → Account
note_for_each' [] h a = a
note_for_each' (p ∷ ps) h a = note_for_each' ps h (note_dropped' p (h ∷ []) a)

-- `push_to`
unfoldable pub push_to' : List ℕ → ℕ → List ℕ → ℕ → Account → Account
push_to' peers id content round a =
    a ▷ plain (send_each peers (Gossip id content (Swarm round)))
    ▷ note_for_each' (handed_back peers (Gossip id content (Swarm round)) a.run) (record { id = id; round = round })

-- `eager_push`
unfoldable pub eager_push' : ℕ → List ℕ → ℕ → ℕ → List ℕ → Account → Account
eager_push' id content round sender skip a = push_to' (eager_targets sender skip a.run.state) id content round a

-- `send_ihave`
unfoldable pub send_ihave' : ℕ → List Ihave → Account → Account
send_ihave' p hs a = if takes p a.run then plain (send p (IHave hs)) a else note_dropped' p hs (plain (send p (IHave hs)) a)

-- `push_on`
unfoldable pub push_on' : ℕ → List ℕ → ℕ → ℕ → Account → Account
push_on' id content round sender a = eager_push' id content round sender (keys (grafted_for id a.run.state)) a

-- `take_in`
unfoldable pub take_in' : ℕ → ℕ → ℕ → List ℕ → ℕ → Account → Account
take_in' now sender id content round a =
    a ▷ plain (mark_received now id)
    ▷ plain (cache_at now id content (suc round))
    ▷ plain (set_first id sender round)
    ▷ push_on' id content (suc round) sender
    ▷ plain (lazy_push id (suc round) sender)
    ▷ plain (forget_and_optimise id sender round)
    ▷ plain (raise_hops (suc round))

-- `on_new`
unfoldable pub on_new' : ℕ → ℕ → ℕ → List ℕ → Delivery → Account → Account
on_new' now sender id content (Swarm round) a = a ▷ take_in' now sender id content round ▷ plain (emit sender content (Swarm round))
on_new' now sender id content Neighbors a = a ▷ plain (emit sender content Neighbors)

-- `reply_with`
unfoldable pub reply_with' : ℕ → ℕ → Option Cached → Account → Account
reply_with' sender id None a = a
reply_with' sender id (Some c) a =
    if takes sender a.run then plain (send sender (Gossip id c.content (Swarm c.round))) a
    else (a ▷ plain (send sender (Gossip id c.content (Swarm c.round))) ▷ note_dropped' sender (record { id = id; round = c.round } ∷ []))

-- `reply`
unfoldable pub reply' : ℕ → Option ℕ → Account → Account
reply' sender None a = a
reply' sender (Some id) a = reply_with' sender id (get id a.run.state.cache) a

-- `on_graft`
unfoldable pub on_graft' : ℕ → Option ℕ → Account → Account
on_graft' sender wanted a = a ▷ plain (update_links (add_eager sender)) ▷ reply' sender wanted

-- `send_chunks`
unfoldable pub send_chunks' : ℕ → List (List Ihave) → Account → Account
send_chunks' p [] a = a
send_chunks' p (hs ∷ rest) a = send_chunks' p rest (send_ihave' p hs a)

-- `dispatch_to`
unfoldable pub dispatch_to' : List ℕ → ℕ → List Note → Account → Account
dispatch_to' [] k ns a = a
dispatch_to' (p ∷ ps) k ns a = dispatch_to' ps k ns (send_chunks' p (chunks (length ns) k (queued_for p ns)) a)

-- `on_dispatch_timer`
unfoldable pub on_dispatch_timer' : Account → Account
on_dispatch_timer' a =
    a ▷ plain (with_state (with_queue [] a.run.state))
    ▷ dispatch_to' (queued_peers a.run.state.queue) (per_message a.run.state.settings.max_message_size) a.run.state.queue
    ▷ plain clear_dispatch

-- `if_neighbour`
unfoldable pub if_neighbour' : ℕ → (Account → Account) → Account → Account
if_neighbour' p step a = if is_neighbour p a.run.state.links then step a else a

-- `on_timer`
unfoldable pub on_timer' : ℕ → Timer → Account → Account
on_timer' now (SendGraft id) a = plain (on_send_graft_timer now id) a
on_timer' now DispatchLazyPush a = on_dispatch_timer' a
on_timer' now EvictCache a = plain (on_evict_cache_timer now) a
on_timer' now AnnounceDropped a = plain on_announce_dropped_timer a

module _ (hash : List ℕ → ℕ) where
  -- `on_gossip`
  unfoldable pub on_gossip' : ℕ → ℕ → ℕ → List ℕ → Delivery → Account → Account
  on_gossip' now sender id content d a =
      if not (eqb (hash content) id) then a
      else if holds id a.run.state.received then plain (on_late_graft_reply sender id d) a
      else on_new' now sender id content d a

  -- `broadcast_to`
  unfoldable pub broadcast_to' : ℕ → List ℕ → Account → Account
  broadcast_to' now content a =
      a ▷ plain (mark_received now (hash content))
      ▷ plain (cache_at now (hash content) content 0)
      ▷ plain (lazy_push (hash content) 0 a.run.state.settings.me)
      ▷ eager_push' (hash content) content 0 a.run.state.settings.me []

  -- `broadcast`
  unfoldable pub broadcast' : ℕ → List ℕ → Account → Account
  broadcast' now content a =
      if ltb a.run.state.settings.max_message_size (gossip_size (length content)) then a else broadcast_to' now content a

  -- `on_message`
  unfoldable pub on_message' : ℕ → ℕ → Message → Account → Account
  on_message' now sender (Gossip id content d) a = on_gossip' now sender id content d a
  on_message' now sender Prune a = plain (if_neighbour sender (on_prune sender)) a
  on_message' now sender (Graft wanted round) a = if_neighbour' sender (on_graft' sender wanted) a
  on_message' now sender (IHave hs) a = plain (if_neighbour sender (on_ihave sender hs)) a

  -- `handle_message`
  unfoldable pub handle_message' : ℕ → ℕ → Message → Account → Account
  handle_message' now sender m a = a ▷ plain (with_counts (count_message m a.run.counts)) ▷ on_message' now sender m

  -- `handle`
  unfoldable pub handle' : ℕ → Event → Account → Account
  handle' now (Received p m) a = a ▷ plain (first_event now) ▷ handle_message' now p m
  handle' now (Broadcast content) a = a ▷ plain (first_event now) ▷ broadcast' now content
  handle' now (Fired t) a = a ▷ plain (first_event now) ▷ on_timer' now t
  handle' now (Up as_quiet p) a = plain (on_neighbor_up as_quiet p) a
  handle' now (Down p) a = plain (on_neighbor_down p) a

  -- what `note_dropped` came to in the event of a call
  abbrev pub comings_in : State → Counts → List Room → ℕ → Event → List Coming
  comings_in s n rooms now e = (handle' now e (record { run = begin s n rooms; comings = [] })).comings

-- "`note_dropped` came to it for this neighbour while this neighbour had 256 or all had 4,096"
pub record CameWhileFull (p id : ℕ) (comings : List Coming) : Type 0 where
  pub before : List Coming
  pub it : Coming
  pub after : List Coming
  pub split : comings ≡ before ++ (it ∷ after)
  pub same_peer : it.peer ≡ p
  pub same_id : it.id ≡ id
  pub full : record_full p it.state.dropped ≡ true

-- `follows`: the account's run is `handle`'s. Of every event upon every whole state (a call upon another is refused with 5), for each neighbour and identifier: `came`: where `met_full` holds, it so came in that
-- call; `met`: where it so came, the payload or announcement was handed back there in that call, and `met_full` holds, or it stood recorded for this neighbour already when it came, or was not cached then
pub record MetFullExact (hash : List ℕ → ℕ) : Type 0 where
  pub follows : (now : ℕ) (e : Event) (a : Account) → (handle' hash now e a).run ≡ handle hash now e a.run
  pub came : (s : State) (n : Counts) (rooms : List Room) (now : ℕ) (e : Event) → whole s ≡ true → (p id : ℕ) →
      met_full p id (accept e (handle hash now e (begin s n rooms))) ≡ true → CameWhileFull p id (comings_in hash s n rooms now e)
  pub met : (s : State) (n : Counts) (rooms : List Room) (now : ℕ) (e : Event) → whole s ≡ true → (p id : ℕ) → (c : CameWhileFull p id (comings_in hash s n rooms now e)) →
      (any (sends p (carries id) was_handed_back) (handle hash now e (begin s n rooms)).actions ≡ true)
      × ((met_full p id (accept e (handle hash now e (begin s n rooms))) ≡ true)
      ⊎ ((any (notes p id) c.it.state.dropped ≡ true) ⊎ (holds id c.it.state.cache ≡ false)))
