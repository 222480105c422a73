-- The state after each event, and after a whole call (`state_after`), is that of `handle`.
use Rattle.std.proofs.Common.{ℕ, ◌≡◌, refl, ap, ◌∙◌, Bool, true, false, not, ◌||◌, List, [], ◌∷◌, ◌++◌, ltb, eqb, length, if◌then◌else◌, Option, Some, None}
use Rattle.std.proofs.Math.Bool.{or-false}
use Rattle.storage.specs.Lists.Base.{is_empty, member, all, once}
use Rattle.time_cache.specs.TimeCache.{get, holds}
use Rattle.postcard.specs.Message.{Delivery, Swarm, Neighbors, Ihave, Message, Gossip, Prune, Graft, IHave, Timer, SendGraft, DispatchLazyPush, EvictCache, AnnounceDropped, Event, Received, Broadcast, Fired, Up, Down}
use Rattle.protocol.specs.Links.{eager, is_neighbour, add_lazy, add_eager}
use Rattle.protocol.specs.State.{State, Counts, Hop, Cached, with_links, with_dispatch_scheduled, with_announce_scheduled}
use Rattle.protocol.specs.Run.{Run, Room, begin, with_state, with_counts, act, send, takes}
use Rattle.protocol.specs.Push.{schedule_announce_dropped, note_dropped, send_each, handed_back, note_for_each, eager_targets, push_to, eager_push, lazy_push}
use Rattle.protocol.specs.Gossips.{mark_received, cache_at, update_links, prune_back, announcers, set_kept, Late, duplicate, repeated, faster, on_duplicate, on_late_graft_reply, on_new, on_gossip, gossip_size, broadcast_to, broadcast}
use Rattle.protocol.specs.Control.{announce, schedule_graft, on_announced, on_ihave, on_prune, reply_with, reply, on_graft, note_graft, leave_announcers, ask_first, unmark, on_send_graft_timer}
use Rattle.protocol.specs.Ticks.{oldest, younger, move_oldest, still_cached, dispatch_if_queued, on_announce_dropped_timer, on_evict_cache_timer}
use Rattle.protocol.specs.Neighbours.{on_neighbor_up, on_neighbor_down}
use Rattle.protocol.specs.Handle.{first_event, count_message, if_neighbour, on_timer, on_message, handle_message, handle}
use Rattle.protocol.specs.Whole.{whole}
use Rattle.protocol.specs.Consistent.{Flagged, Consistent}
use Rattle.protocol.proofs.Consistent.{whole-consistent}
use Rattle.protocol.proofs.WholeKept.{kept-first_event}
use Rattle.protocol.proofs.LinkSteps.{has-mark}
use Rattle.storage.proofs.ListsLaws.Branches.{if-on, if-both}
use Rattle.decide.specs.StateAfter.{first_state, pushed_state, lazy_state, taken_state, late_state, broadcast_state, announced_state, ihave_state, reply_state, graft_state, asked_state, send_graft_state, announce_state, timer_state, gossip_state, message_state, state_after}
use Rattle.decide.proofs.SettledLaws.{first-rooms}
use Rattle.decide.proofs.Broadcast.{lazy-rooms}
use Rattle.decide.proofs.Dispatch.{dispatched-state}
use Rattle.decide.proofs.UpDownEvict.{dispatch-state}
use Rattle.decide.proofs.StateLaws.{push-state, eager-state, lazy-state, taken-state, new-state}

-- a first event's work
pub first-state : (now : ℕ) (r : Run) → (first_event now r).state ≡ first_state now r.state
unfolding first_event first_state on_evict_cache_timer act
first-state now r = if-on (λ (y : Run). y.state) r.state.init _ _

-- received before
pub late-state : (sender id : ℕ) (l : Late) (r : Run) → (on_duplicate sender id l r).state ≡ late_state sender id l r.state
unfolding on_duplicate late_state prune_back update_links send set_kept
late-state sender id duplicate r = refl
late-state sender id repeated r = refl
late-state sender id (faster first) r = refl

module _ (hash : List ℕ → ℕ) where
  pub gossip-state : (now sender id : ℕ) (content : List ℕ) (d : Delivery) (r : Run) → Consistent r.state → (on_gossip hash now sender id content d r).state ≡ gossip_state hash r.rooms now sender id content d r.state
  unfolding on_gossip gossip_state on_late_graft_reply on_new act
  gossip-state now sender id content (Swarm round) r x =
      if-on (λ (y : Run). y.state) (not (eqb (hash content) id)) _ _
      ∙ if-both (not (eqb (hash content) id)) refl
      (if-on (λ (y : Run). y.state) (holds id r.state.received) _ _
      ∙ if-both (holds id r.state.received) (late-state sender id _ r) (new-state now sender id content round r x))
  gossip-state now sender id content Neighbors r x =
      if-on (λ (y : Run). y.state) (not (eqb (hash content) id)) _ _
      ∙ if-both (not (eqb (hash content) id)) refl
      (if-on (λ (y : Run). y.state) (holds id r.state.received) _ _
      ∙ if-both (holds id r.state.received) (late-state sender id _ r) refl)

  pub broadcast-state : (now : ℕ) (content : List ℕ) (r : Run) → Consistent r.state → (broadcast_to hash now content r).state ≡ broadcast_state r.rooms now (hash content) content r.state
  unfolding broadcast_to broadcast_state eager_push
  broadcast-state now content r x =
      let id = hash content in
      let me = r.state.settings.me in
      let r₂ = cache_at now id content 0 (mark_received now id r) in
      let r₃ = lazy_push id 0 me r₂ in
      let s₃ : r₃.state ≡ lazy_state id 0 me (taken_state now id content 0 r.state) = lazy-state id 0 me r₂ ∙ ap (lazy_state id 0 me) (taken-state now id content 0 r) in
      let same : r₃.rooms ≡ r.rooms = lazy-rooms id 0 me r₂ ∙ unfold cache_at mark_received in refl in
      eager-state id content 0 me [] r₃ (rw s₃ (unfold lazy_state taken_state in x.core.links_up)) (rw s₃ (unfold lazy_state taken_state in x.record_flag))
      ∙ ap (λ (rooms : List Room). pushed_state rooms (eager_targets me [] r₃.state) (record { id = id; round = 0 }) r₃.state) same
      ∙ ap (λ (s : State). pushed_state r.rooms (eager_targets me [] s) (record { id = id; round = 0 }) s) s₃

-- IHave
announced-state : (sender : ℕ) (h : Ihave) (r : Run) → (on_announced sender h r).state ≡ announced_state sender h r.state
unfolding on_announced announced_state announce schedule_graft act
announced-state sender h r =
    if-on (λ (y : Run). y.state) (holds h.id r.state.received) _ _
    ∙ if-both (holds h.id r.state.received) refl (if-on (λ (y : Run). y.state) (member h.id r.state.timers.graft) _ _)

pub ihave-state : (sender : ℕ) (hs : List Ihave) (r : Run) → (on_ihave sender hs r).state ≡ ihave_state sender hs r.state
unfolding on_ihave ihave_state
ihave-state sender [] r = refl
ihave-state sender (h ∷ hs) r = ihave-state sender hs (on_announced sender h r) ∙ ap (ihave_state sender hs) (announced-state sender h r)

-- SendGraft
asked-state : (now id : ℕ) (hs : List Hop) (r : Run) → (ask_first now id hs r).state ≡ asked_state now id hs r.state
unfolding ask_first asked_state leave_announcers update_links note_graft send act
asked-state now id [] r = refl
asked-state now id (h ∷ hs) r = refl

pub send_graft-state : (now id : ℕ) (r : Run) → (on_send_graft_timer now id r).state ≡ send_graft_state now id r.state
unfolding on_send_graft_timer send_graft_state unmark
send_graft-state now id r =
    if-on (λ (y : Run). y.state) (holds id r.state.received) _ _
    ∙ if-both (holds id r.state.received) refl (asked-state now id (announcers id r.state) (unmark id r) ∙ unfold unmark in refl)

-- a Graft reply is a push to one peer
reply-push : (sender id : ℕ) (c : Cached) (r : Run) → reply_with sender id (Some c) r ≡ push_to (sender ∷ []) id c.content c.round r
unfolding reply_with push_to note_for_each handed_back send_each
reply-push sender id c r = on (takes sender r)
  where
    m : Message
    m = Gossip id c.content (Swarm c.round)

    on : (b : Bool) → (if b then send sender m r else note_dropped sender (record { id = id; round = c.round } ∷ []) (send sender m r)) ≡ note_for_each (if b then [] else sender ∷ []) (record { id = id; round = c.round }) (send sender m r)
    on true = unfold note_for_each in refl
    on false = unfold note_for_each in refl

reply-state : (sender id : ℕ) (o : Option Cached) (r : Run) → is_neighbour sender r.state.links ≡ true → Flagged r.state.dropped r.state.timers.announce →
    (reply_with sender id o r).state ≡ reply_state r.rooms sender id o r.state
unfolding reply_state
reply-state sender id None r n g = unfold reply_with in refl
reply-state sender id (Some c) r n g =
    ap (λ (y : Run). y.state) (reply-push sender id c r)
    ∙ push-state (sender ∷ []) id c.content c.round r (unfold all in (rw n refl)) (unfold once member in refl) g

-- Graft, from a neighbour
pub graft-state : (sender : ℕ) (wanted : Option ℕ) (r : Run) → is_neighbour sender r.state.links ≡ true → Flagged r.state.dropped r.state.timers.announce →
    (on_graft sender wanted r).state ≡ graft_state r.rooms sender wanted r.state
unfolding on_graft graft_state reply update_links
graft-state sender None r n g = refl
graft-state sender (Some id) r n g =
    reply-state sender id (get id r.state.cache) (with_state (with_links (add_eager sender r.state.links) r.state) r) (unfold add_eager in (has-mark sender sender eager r.state.links ∙ n)) g

pub prune-state : (sender : ℕ) (r : Run) → (on_prune sender r).state ≡ with_links (add_lazy sender r.state.links) r.state
unfolding on_prune update_links
prune-state sender r = refl

-- AnnounceDropped

dispatch-set : (s : State) (e b : Bool) → s.timers.dispatch ≡ b → (if e then s else if b then s else with_dispatch_scheduled true s) ≡ with_dispatch_scheduled (not e || b) s
dispatch-set s true b p = λ k. with_dispatch_scheduled (p k) s
dispatch-set s false true p = λ k. with_dispatch_scheduled (p k) s
dispatch-set s false false p = refl

announce-set : (s : State) (e f : Bool) → s.timers.announce ≡ f → (if e || f then s else with_announce_scheduled true s) ≡ with_announce_scheduled (not e || f) s
announce-set s true f p = λ k. with_announce_scheduled (p k) s
announce-set s false true p = λ k. with_announce_scheduled (p k) s
announce-set s false false p = refl

queued-state : (r : Run) → (dispatch_if_queued r).state ≡ with_dispatch_scheduled (not (is_empty r.state.queue) || r.state.timers.dispatch) r.state
unfolding dispatch_if_queued
queued-state r =
    if-on (λ (y : Run). y.state) (is_empty r.state.queue) _ _
    ∙ if-both (is_empty r.state.queue) refl (dispatch-state r)
    ∙ dispatch-set r.state (is_empty r.state.queue) r.state.timers.dispatch refl

scheduled-state : (r : Run) → (schedule_announce_dropped r).state ≡ with_announce_scheduled (not (is_empty r.state.dropped) || r.state.timers.announce) r.state
unfolding schedule_announce_dropped act
scheduled-state r =
    if-on (λ (y : Run). y.state) (is_empty r.state.dropped || r.state.timers.announce) _ _
    ∙ announce-set r.state (is_empty r.state.dropped) r.state.timers.announce refl

pub announce-state : (r : Run) → (on_announce_dropped_timer r).state ≡ announce_state r.state
unfolding on_announce_dropped_timer announce_state move_oldest
announce-state r =
    let r₁ = with_state (move_oldest (still_cached r.state) r.state) r in
    scheduled-state (dispatch_if_queued r₁)
    ∙ ap (λ (s : State). with_announce_scheduled (not (is_empty s.dropped) || s.timers.announce) s) (queued-state r₁)
    ∙ (λ k. with_announce_scheduled (or-false (not (is_empty (younger [] (still_cached r.state)))) k)
    (with_dispatch_scheduled (not (is_empty (r.state.queue ++ oldest [] (still_cached r.state))) || r.state.timers.dispatch) (move_oldest (still_cached r.state) r.state)))

-- a timer
pub timer-state : (now : ℕ) (t : Timer) (r : Run) → Consistent r.state → (on_timer now t r).state ≡ timer_state r.rooms now t r.state
unfolding on_timer timer_state
timer-state now (SendGraft id) r x = send_graft-state now id r
timer-state now DispatchLazyPush r x = dispatched-state r x
timer-state now EvictCache r x = unfold on_evict_cache_timer act in refl
timer-state now AnnounceDropped r x = announce-state r

-- a branch, with what the test says
by-if : {A : Type 0} (b : Bool) (x y u v : A) → (b ≡ true → x ≡ u) → (b ≡ false → y ≡ v) → (if b then x else y) ≡ (if b then u else v)
by-if true x y u v p q = p refl
by-if false x y u v p q = q refl

module _ (hash : List ℕ → ℕ) where
  pub message-state : (now sender : ℕ) (m : Message) (r : Run) → Consistent r.state → (on_message hash now sender m r).state ≡ message_state hash r.rooms now sender m r.state
  unfolding on_message message_state if_neighbour
  message-state now sender (Gossip id content d) r x = gossip-state hash now sender id content d r x
  message-state now sender Prune r x =
      if-on (λ (y : Run). y.state) (is_neighbour sender r.state.links) _ _ ∙ if-both (is_neighbour sender r.state.links) (prune-state sender r) refl
  message-state now sender (Graft wanted round) r x =
      if-on (λ (y : Run). y.state) (is_neighbour sender r.state.links) _ _
      ∙ by-if (is_neighbour sender r.state.links) _ _ _ _ (λ n. graft-state sender wanted r n x.record_flag) (λ n. refl)
  message-state now sender (IHave hs) r x =
      if-on (λ (y : Run). y.state) (is_neighbour sender r.state.links) _ _ ∙ if-both (is_neighbour sender r.state.links) (ihave-state sender hs r) refl

  -- the state after any event
  pub handle-state : (now : ℕ) (e : Event) (r : Run) → Consistent r.state → (handle hash now e r).state ≡ state_after hash r.rooms now e r.state
  unfolding handle handle_message state_after
  handle-state now (Received p m) r x =
      message-state now p m (with_counts (count_message m (first_event now r).counts) (first_event now r)) ((kept-first_event now r).consistent x)
      ∙ rw (first-rooms now r, first-state now r) refl
  handle-state now (Broadcast content) r x =
      broadcasted (first_event now r) ((kept-first_event now r).consistent x)
      ∙ rw (kept-first_event now r).settings (rw (first-rooms now r, first-state now r) refl)
    where
      broadcasted : (y : Run) → Consistent y.state → (broadcast hash now content y).state ≡
          (if ltb y.state.settings.max_message_size (gossip_size (length content)) then y.state else broadcast_state y.rooms now (hash content) content y.state)
      broadcasted y c =
          unfold broadcast in
          (if-on (λ (z : Run). z.state) (ltb y.state.settings.max_message_size (gossip_size (length content))) _ _
          ∙ if-both (ltb y.state.settings.max_message_size (gossip_size (length content))) refl (broadcast-state hash now content y c))
  handle-state now (Fired t) r x = timer-state now t (first_event now r) ((kept-first_event now r).consistent x) ∙ rw (first-rooms now r, first-state now r) refl
  handle-state now (Up as_quiet p) r x = unfold on_neighbor_up update_links in refl
  handle-state now (Down p) r x = unfold on_neighbor_down in refl

  -- the state after a call, of the state before
  pub decide-state : (now : ℕ) (e : Event) (s : State) (c : Counts) (rooms : List Room) → whole s ≡ true → (handle hash now e (begin s c rooms)).state ≡ state_after hash rooms now e s
  decide-state now e s c rooms w = handle-state now e (begin s c rooms) (whole-consistent s w)
