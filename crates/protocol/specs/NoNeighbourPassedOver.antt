-- The guarantee: what holds after every list of event calls from a fresh panel. What is said of the past is read from the event of each accepted call, its actions, and the state after it.
use Rattle.std.specs.Prelude.{ℕ, ◌≤◌, ◌≡◌, Bool, true, false, not, ◌&&◌, List, [], ◌∷◌, ◌++◌, leb, eqb, length, if◌then◌else◌, Option, Some, None}
use Rattle.storage.specs.Lists.Base.{any, count, member}
use Rattle.postcard.specs.Message.{Swarm, Neighbors, Ihave, Message, Gossip, Prune, Graft, IHave, Timer, SendGraft, DispatchLazyPush, EvictCache, AnnounceDropped, Event, Received, Broadcast, Fired, Up, Down, Action, Sent, Scheduled, Emitted, Forgotten}
use Rattle.time_cache.specs.TimeCache.{holds}
use Rattle.protocol.specs.Links.{eager_peers, lazy_peers}
use Rattle.protocol.specs.State.{State, Counts, Settings, Limits, created, create}
use Rattle.protocol.specs.Push.{for_peer, notes, record_full}
use Rattle.protocol.specs.Gossips.{gossip_size}
use Rattle.protocol.specs.Answer.{Call, Answer, refuse, accept}
use Rattle.protocol.specs.Calls.{run_calls}
use Rattle.protocol.specs.declared.TheConstants.{MAX_DROPPED_PER_PEER, MAX_DROPPED}

-- "only accepted calls tell, take in, announce or fire": the event of an accepted call passes the test
unfoldable pub by_event : (Event → Bool) → Answer → Bool
by_event f (refuse n) = false
by_event f (accept e r) = f e

-- "What was sent, taken, handed back or scheduled is read from the actions": an action of an accepted call passes the test
unfoldable pub by_action : (Action → Bool) → Answer → Bool
by_action f (refuse n) = false
by_action f (accept e r) = any f r.actions

-- a call of the list passes the test
abbrev pub Happened : (Answer → Bool) → List Answer → Type 0
Happened f past = any f past ≡ true

-- no call of the list passes it
abbrev pub Never : (Answer → Bool) → List Answer → Type 0
Never f past = any f past ≡ false

-- the event tells this peer up
unfoldable pub is_up : ℕ → Event → Bool
is_up p (Received q m) = false
is_up p (Broadcast content) = false
is_up p (Fired t) = false
is_up p (Up as_quiet q) = eqb p q
is_up p (Down q) = false

-- the event tells this peer down
unfoldable pub is_down : ℕ → Event → Bool
is_down p (Received q m) = false
is_down p (Broadcast content) = false
is_down p (Fired t) = false
is_down p (Up as_quiet q) = false
is_down p (Down q) = eqb p q

-- the call told this peer down: a break
unfoldable pub tells_down : ℕ → Answer → Bool
tells_down p a = by_event (is_down p) a

-- is the peer a neighbour after the call, given whether it was one before? "Being told up again is no break"
unfoldable pub up_after_call : ℕ → Answer → Bool → Bool
up_after_call p a up = if by_event (is_up p) a then true else if tells_down p a then false else up

-- the same after a list of calls
unfoldable pub up_after : ℕ → Bool → List Answer → Bool
up_after p up [] = up
up_after p up (a ∷ past) = up_after p (up_after_call p a up) past

-- "Each neighbour (told up, not down since)"
unfoldable pub told_up : ℕ → List Answer → Bool
told_up p past = up_after p false past

-- a message taken in, and where it came from
pub record Took : Type 0 where
  pub id : ℕ
  pub from : ℕ

-- the action is an emit
unfoldable pub is_emit : Action → Bool
is_emit (Sent p taken m) = false
is_emit (Scheduled delay t) = false
is_emit (Emitted p content d) = true
is_emit (Forgotten id) = false

-- "a new Swarm Gossip as told above, which came from the event's peer": a call that receives one emits exactly when it is valid and new
unfoldable pub took_gossip : ℕ → Message → List Action → Option Took
took_gossip p (Gossip id content (Swarm round)) actions = if any is_emit actions then Some (record { id = id; from = p }) else None
took_gossip p (Gossip id content Neighbors) actions = None
took_gossip p Prune actions = None
took_gossip p (Graft wanted round) actions = None
took_gossip p (IHave hs) actions = None

module _ (hash : List ℕ → ℕ) where
  -- "or a Swarm broadcast of size at most M, which came from the panel"
  unfoldable pub took_broadcast : Settings → List ℕ → Option Took
  took_broadcast c content =
      if leb (gossip_size (length content)) c.max_message_size then Some (record { id = hash content; from = c.me }) else None

  -- what an event with these actions takes in
  unfoldable pub took_by_event : Settings → Event → List Action → Option Took
  took_by_event c (Received p m) actions = took_gossip p m actions
  took_by_event c (Broadcast content) actions = took_broadcast c content
  took_by_event c (Fired t) actions = None
  took_by_event c (Up as_quiet p) actions = None
  took_by_event c (Down p) actions = None

  -- "It is taken in by the call that puts it into the message cache"
  unfoldable pub took : Settings → Answer → Option Took
  took c (refuse n) = None
  took c (accept e r) = took_by_event c e r.actions

-- "A message is known by its identifier"
unfoldable pub is_of : ℕ → Option Took → Bool
is_of id None = false
is_of id (Some t) = eqb t.id id

-- the IHave lists it
unfoldable pub lists : ℕ → List Ihave → Bool
lists id hs = any (λ h. eqb h.id id) hs

-- a received IHave of this peer that lists it
unfoldable pub announces_in : ℕ → ℕ → Event → Bool
announces_in p id (Received q (IHave hs)) = eqb q p && lists id hs
announces_in p id (Received q (Gossip j content d)) = false
announces_in p id (Received q Prune) = false
announces_in p id (Received q (Graft wanted round)) = false
announces_in p id (Broadcast content) = false
announces_in p id (Fired t) = false
announces_in p id (Up as_quiet q) = false
announces_in p id (Down q) = false

-- "A neighbour announced it by a received IHave that lists it"
unfoldable pub announced : ℕ → ℕ → Answer → Bool
announced p id a = by_event (announces_in p id) a

-- "A Graft for it names its identifier"
unfoldable pub is_graft_for : ℕ → Message → Bool
is_graft_for id (Gossip j content d) = false
is_graft_for id Prune = false
is_graft_for id (Graft None round) = false
is_graft_for id (Graft (Some j) round) = eqb j id
is_graft_for id (IHave hs) = false

-- "Its payload is a Gossip of delivery Swarm with its identifier, its announcement an IHave that lists it"
unfoldable pub carries : ℕ → Message → Bool
carries id (Gossip j content (Swarm round)) = eqb j id
carries id (Gossip j content Neighbors) = false
carries id Prune = false
carries id (Graft wanted round) = false
carries id (IHave hs) = lists id hs

-- the action sends such a message to this peer, and the link did such with it
unfoldable pub sends : ℕ → (Message → Bool) → (Bool → Bool) → Action → Bool
sends p which how (Sent q taken m) = eqb q p && which m && how taken
sends p which how (Scheduled delay t) = false
sends p which how (Emitted q content d) = false
sends p which how (Forgotten id) = false

-- "taken"
abbrev pub was_taken : Bool → Bool
was_taken taken = taken

-- "handed back"
abbrev pub was_handed_back : Bool → Bool
was_handed_back taken = not taken

-- "taken or handed back"
abbrev pub taken_or_handed_back : Bool → Bool
taken_or_handed_back taken = true

-- the call sent such a message to this peer, and the link did such with it
unfoldable pub sent : ℕ → (Message → Bool) → (Bool → Bool) → Answer → Bool
sent p which how a = by_action (sends p which how) a

-- cached, not recorded for this neighbour, and the record full: this neighbour has 256 or all have 4,096
unfoldable pub left_out : ℕ → ℕ → State → Bool
left_out p id s = holds id s.cache && not (any (notes p id) s.dropped) && record_full p s.dropped

-- "It met a full record when its payload or announcement, sent to this neighbour, was handed back and `note_dropped` came to it for this neighbour while this neighbour had
-- 256 or all had 4,096": `note_dropped` adds each cached identifier it comes to but for a full record, so that one is left out after the call. How it goes together with the words, of every call: `MetFullExact`
unfoldable pub met_full : ℕ → ℕ → Answer → Bool
met_full p id (refuse n) = false
met_full p id (accept e r) = any (sends p (carries id) was_handed_back) r.actions && left_out p id r.state

-- "The queue's timer is DispatchLazyPush, the record's AnnounceDropped"
pub data Tick : Type 0 where
  dispatch_tick announce_tick : Tick

-- the timer is this one
unfoldable pub is_tick : Tick → Timer → Bool
is_tick dispatch_tick (SendGraft id) = false
is_tick dispatch_tick DispatchLazyPush = true
is_tick dispatch_tick EvictCache = false
is_tick dispatch_tick AnnounceDropped = false
is_tick announce_tick (SendGraft id) = false
is_tick announce_tick DispatchLazyPush = false
is_tick announce_tick EvictCache = false
is_tick announce_tick AnnounceDropped = true

-- the action schedules this timer
unfoldable pub schedules_tick : Tick → Action → Bool
schedules_tick t (Sent p taken m) = false
schedules_tick t (Scheduled delay timer) = is_tick t timer
schedules_tick t (Emitted p content d) = false
schedules_tick t (Forgotten id) = false

-- the call scheduled it
unfoldable pub scheduled : Tick → Answer → Bool
scheduled t a = by_action (schedules_tick t) a

-- the event is this timer's
unfoldable pub fires_tick : Tick → Event → Bool
fires_tick t (Received p m) = false
fires_tick t (Broadcast content) = false
fires_tick t (Fired timer) = is_tick t timer
fires_tick t (Up as_quiet p) = false
fires_tick t (Down p) = false

-- "a timer fires by its event"
unfoldable pub fired : Tick → Answer → Bool
fired t a = by_event (fires_tick t) a

-- "its timer was scheduled, and if that timer ever fired, in or after the call of its last firing": by a call after which it did not fire
pub record TimerRuns (t : Tick) (past : List Answer) : Type 0 where
  pub before : List Answer
  pub call : Answer
  pub after : List Answer
  pub split : past ≡ before ++ (call ∷ after)
  pub schedules : scheduled t call ≡ true
  pub unfired : Never (fired t) after

-- "in exactly one of eager and lazy"
pub data InOne (p : ℕ) (s : State) : Type 0 where
  in_eager : member p (eager_peers s.links) ≡ true → member p (lazy_peers s.links) ≡ false → InOne p s
  in_lazy : member p (eager_peers s.links) ≡ false → member p (lazy_peers s.links) ≡ true → InOne p s

-- "nobody else in either"
pub record InNeither (p : ℕ) (s : State) : Type 0 where
  pub not_eager : member p (eager_peers s.links) ≡ false
  pub not_lazy : member p (lazy_peers s.links) ≡ false

-- why a neighbour was not passed over; `before` are the calls before the last taking in, `since` that call and those after it: "Then it came from there; or before that taking in, and
-- without break since, this neighbour had announced it and a Graft for it was sent there, taken or handed back; or since that taking in its payload or announcement was sent there and was
-- taken, or was handed back and met a full record (this neighbour's 256 or all 4,096); or it now stands queued or recorded for this neighbour"
pub data Reached (p id : ℕ) (before since : List Answer) (from : ℕ) (s : State) : Type 0 where
  came_from_there : from ≡ p → Reached p id before since from s
  announced_and_grafted :
      (earlier announcing grafting : List Answer) → before ≡ earlier ++ (announcing ++ grafting) →
      told_up p earlier ≡ true → Never (tells_down p) (announcing ++ grafting) →
      Happened (announced p id) announcing → Happened (sent p (is_graft_for id) taken_or_handed_back) grafting → Reached p id before since from s
  sent_and_taken : Happened (sent p (carries id) was_taken) since → Reached p id before since from s
  back_and_full : Happened (met_full p id) since → Reached p id before since from s
  stands_queued : any (notes p id) s.queue ≡ true → Reached p id before since from s
  stands_recorded : any (notes p id) s.dropped ≡ true → Reached p id before since from s

module _ (hash : List ℕ → ℕ) (c : Settings) where
  -- the call by which the message was last taken in
  pub record LastTaken (id : ℕ) (past : List Answer) : Type 0 where
    pub before : List Answer
    pub call : Answer
    pub after : List Answer
    pub from : ℕ
    pub split : past ≡ before ++ (call ∷ after)
    pub takes : took hash c call ≡ Some (record { id = id; from = from })
    pub last : Never (λ a. is_of id (took hash c a)) after

  -- "each neighbour but the panel itself, neighbour without break since that message was last taken in"
  pub record MessageReached (id : ℕ) (past : List Answer) (s : State) : Type 0 where
    pub taken : LastTaken id past
    pub reached : (p : ℕ) → (p ≡ c.me → ⊥) → told_up p taken.before ≡ true → Never (tells_down p) taken.after →
        Reached p id taken.before (taken.call ∷ taken.after) taken.from s

  -- "after it this holds"; `s` is the state after the list: "Each neighbour (told up, not down since) is in exactly one of eager and lazy", "nobody else in either", "At most 256 identifiers
  -- stand recorded for one neighbour", "4,096 in all", "Take each swarm message still cached", "If any queue … stands, its timer was scheduled …", "If any … record stands, its timer was
  -- scheduled …": a field each
  pub record HoldsAfter (past : List Answer) (s : State) : Type 0 where
    pub neighbours : (p : ℕ) → told_up p past ≡ true → InOne p s
    pub strangers : (p : ℕ) → told_up p past ≡ false → InNeither p s
    pub record_each : (p : ℕ) → count (for_peer p) s.dropped ≤ MAX_DROPPED_PER_PEER
    pub record_all : length s.dropped ≤ MAX_DROPPED
    pub messages : (id : ℕ) → holds id s.cache ≡ true → MessageReached id past s
    pub queue_timer : (s.queue ≡ [] → ⊥) → TimerRuns dispatch_tick past
    pub record_timer : (s.dropped ≡ [] → ⊥) → TimerRuns announce_tick past

-- "Whatever the clock does and however full the links are: for every list of event calls (…; refused ones too) from a fresh panel, after it this holds"
pub record NoNeighbourPassedOver (hash : List ℕ → ℕ) : Type 0 where
  pub always : (c : Settings) (l : Limits) (block_length : ℕ) (s : State) (n : Counts) → create c l block_length ≡ created s n →
      (ks : List Call) → HoldsAfter hash c (run_calls hash s n ks).answers (run_calls hash s n ks).state
