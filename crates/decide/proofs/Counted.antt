-- The counts after a call are those of `handle`: no step changes them but the count of a message and `raise_hops`.
use Rattle.std.proofs.Common.{Option, Some, None, ℕ, suc, ◌≡◌, refl, ap, ◌∙◌, true, not, ◌&&◌, ◌||◌, List, [], ◌∷◌, ltb, eqb, length}
use Rattle.storage.specs.Lists.Base.{is_empty, member, any}
use Rattle.storage.proofs.ListsLaws.Branches.{if-on, if-both}
use Rattle.time_cache.specs.TimeCache.{holds}
use Rattle.postcard.specs.Message.{Delivery, Swarm, Neighbors, Ihave, Message, Gossip, Prune, Graft, IHave, Timer, SendGraft, DispatchLazyPush, EvictCache, AnnounceDropped, Event, Received, Broadcast, Fired, Up, Down}
use Rattle.protocol.specs.Links.{is_neighbour, eager_in}
use Rattle.protocol.specs.State.{State, Counts, Hop, Cached}
use Rattle.protocol.specs.Run.{Run, Room, begin, with_state, with_counts, act, send, takes}
use Rattle.protocol.specs.Push.{schedule_dispatch, schedule_announce_dropped, record_full, notes, record_also, note_one, note_each, note_dropped, lazy_push}
use Rattle.protocol.specs.Gossips.{mark_received, cache_at, announcers, grafted_for, set_first, graft_out, forget_missing, raise_hops, least_from, far_closer, update_links, graft_unless_eager, prune_back, optimize_tree, forget_and_optimise, push_on, take_in, Late, duplicate, repeated, faster, set_kept, on_duplicate, on_late_graft_reply, on_new, on_gossip, gossip_size, broadcast_to, broadcast}
use Rattle.protocol.specs.Control.{announce, schedule_graft, on_announced, on_ihave, on_prune, reply_with, reply, on_graft, note_graft, leave_announcers, ask_first, unmark, on_send_graft_timer}
use Rattle.protocol.specs.Ticks.{per_message, queued_peers, clear_dispatch, on_dispatch_timer, dispatch_if_queued, still_cached, move_oldest, on_announce_dropped_timer, on_evict_cache_timer}
use Rattle.protocol.specs.Neighbours.{on_neighbor_up, on_neighbor_down}
use Rattle.protocol.specs.Handle.{first_event, count_message, if_neighbour, on_timer, on_message, handle_message, handle}
use Rattle.protocol.specs.Whole.{whole}
use Rattle.protocol.proofs.Consistent.{whole-consistent}
use Rattle.protocol.proofs.Walk.{Sending, walk-if, walk-eager_push, walk-dispatch_to}
use Rattle.decide.specs.Settled.{settled}
use Rattle.decide.proofs.SettledLaws.{first-state}
use Rattle.decide.specs.Counted.{raised, message_counts, counts_after_call}

-- the counts are as before
pub record Same (a b : Run) : Type 0 where
  pub counts : b.counts ≡ a.counts

still : {r : Run} → Same r r
still = record { counts = refl }

follows : (a b c : Run) → Same a b → Same b c → Same a c
follows a b c p q = record { counts = q.counts ∙ p.counts }

infixr 4 ◌⨾◌
◌⨾◌ : {a b c : Run} → Same a b → Same b c → Same a c
p ⨾ q = follows _ _ _ p q

-- where it computes to that
plain : (a b : Run) → b.counts ≡ a.counts → Same a b
plain a b e = record { counts = e }

same-schedule : (r : Run) → Same r (schedule_announce_dropped r)
unfolding schedule_announce_dropped act
same-schedule r = walk-if Same (is_empty r.state.dropped || r.state.timers.announce) still (plain r _ refl)

same-dispatch : (r : Run) → Same r (schedule_dispatch r)
unfolding schedule_dispatch act
same-dispatch r = walk-if Same r.state.timers.dispatch still (plain r _ refl)

same-one : (p : ℕ) (h : Ihave) (r : Run) → Same r (note_one p h r)
unfolding note_one record_also
same-one p h r = walk-if Same (not (record_full p r.state.dropped) && holds h.id r.state.cache && not (any (notes p h.id) r.state.dropped)) (plain r _ refl) still

same-each : (p : ℕ) (hs : List Ihave) (r : Run) → Same r (note_each p hs r)
unfolding note_each
same-each p [] r = still
same-each p (h ∷ hs) r = same-one p h r ⨾ same-each p hs (note_one p h r)

same_noted : (p : ℕ) (hs : List Ihave) (r : Run) → Same r (note_dropped p hs r)
unfolding note_dropped
same_noted p hs r = walk-if Same (is_neighbour p r.state.links) (same-each p hs r ⨾ same-schedule (note_each p hs r)) still

same_sent : (p : ℕ) (m : Message) (r : Run) → Same r (send p m r)
unfolding send
same_sent p m r = plain r _ refl

same-sending : Sending Same
same-sending = record { stays = λ r. still; follows = follows; sends = same_sent; notes = same_noted }

same-lazy : (id round sender : ℕ) (r : Run) → Same r (lazy_push id round sender r)
unfolding lazy_push
same-lazy id round sender r = plain r _ (same-dispatch _).counts

same-prune : (p : ℕ) (r : Run) → Same r (prune_back p r)
unfolding prune_back update_links
same-prune p r = plain r _ (same_sent p Prune _).counts

same-unless : (h : Hop) (r : Run) → Same r (graft_unless_eager h r)
unfolding graft_unless_eager update_links
same-unless h r = walk-if Same (eager_in h.peer r.state.links) still (plain r _ (same_sent h.peer (Graft None h.round) _).counts)

same-tree : (sender round : ℕ) (hs : List Hop) (r : Run) → Same r (optimize_tree sender round hs r)
unfolding optimize_tree
same-tree sender round [] r = still
same-tree sender round (h ∷ hs) r =
    walk-if Same (far_closer r.state.settings.optimization_threshold round (least_from h hs).round) (same-unless (least_from h hs) r ⨾ same-prune sender (graft_unless_eager (least_from h hs) r)) still

same-forget : (id sender round : ℕ) (r : Run) → Same r (forget_and_optimise id sender round r)
unfolding forget_and_optimise forget_missing
same-forget id sender round r =
    walk-if Same (is_neighbour sender r.state.links && not (graft_out sender round (grafted_for id r.state))) (plain r _ (same-tree sender (suc round) (announcers id r.state) _).counts) (plain r _ refl)

raised-takes : (now sender id : ℕ) (content : List ℕ) (round : ℕ) (r : Run) → (take_in now sender id content round r).counts ≡ raised (suc round) r.counts
unfolding take_in raise_hops raised push_on set_first cache_at mark_received
raised-takes now sender id content round r =
    let a = set_first id sender round (cache_at now id content (suc round) (mark_received now id r)) in
    let b = push_on id content (suc round) sender a in
    let c = lazy_push id (suc round) sender b in
    ap (raised (suc round)) ((same-forget id sender round c).counts ∙ (same-lazy id (suc round) sender b).counts ∙ (walk-eager_push Same same-sending id content (suc round) sender _ a).counts)

same-late : (sender id : ℕ) (l : Late) (r : Run) → Same r (on_duplicate sender id l r)
unfolding on_duplicate set_kept
same-late sender id duplicate r = same-prune sender r
same-late sender id repeated r = still
same-late sender id (faster first) r = plain r _ (same-prune first _).counts

same-announced : (sender : ℕ) (h : Ihave) (r : Run) → Same r (on_announced sender h r)
unfolding on_announced announce schedule_graft act
same-announced sender h r =
    walk-if Same (holds h.id r.state.received) still (walk-if Same (member h.id r.state.timers.graft) (plain r _ refl) (plain r _ refl))

same-ihave : (sender : ℕ) (hs : List Ihave) (r : Run) → Same r (on_ihave sender hs r)
unfolding on_ihave
same-ihave sender [] r = still
same-ihave sender (h ∷ hs) r = same-announced sender h r ⨾ same-ihave sender hs (on_announced sender h r)

same-replied : (sender id : ℕ) (o : Option Cached) (r : Run) → Same r (reply_with sender id o r)
unfolding reply_with
same-replied sender id None r = still
same-replied sender id (Some c) r =
    walk-if Same (takes sender r) (same_sent sender (Gossip id c.content (Swarm c.round)) r)
    (same_sent sender (Gossip id c.content (Swarm c.round)) r ⨾ same_noted sender (record { id = id; round = c.round } ∷ []) (send sender (Gossip id c.content (Swarm c.round)) r))

same-graft : (sender : ℕ) (o : Option ℕ) (r : Run) → Same r (on_graft sender o r)
unfolding on_graft reply update_links
same-graft sender None r = plain r _ refl
same-graft sender (Some id) r = plain r _ (same-replied sender id _ _).counts

same_asked : (now id : ℕ) (hs : List Hop) (r : Run) → Same r (ask_first now id hs r)
unfolding ask_first leave_announcers update_links note_graft act send
same_asked now id [] r = still
same_asked now id (h ∷ hs) r = plain r _ refl

same-tick : (now id : ℕ) (r : Run) → Same r (on_send_graft_timer now id r)
unfolding on_send_graft_timer unmark
same-tick now id r = walk-if Same (holds id r.state.received) (plain r _ refl) (plain r _ (same_asked now id (announcers id r.state) _).counts)

queued : (r : Run) → Same r (dispatch_if_queued r)
unfolding dispatch_if_queued
queued r = walk-if Same (is_empty r.state.queue) still (same-dispatch r)

pub same-timer : (now : ℕ) (t : Timer) (r : Run) → Same r (on_timer now t r)
unfolding on_timer on_dispatch_timer clear_dispatch on_evict_cache_timer on_announce_dropped_timer act
same-timer now (SendGraft id) r = same-tick now id r
same-timer now DispatchLazyPush r = plain r _ (walk-dispatch_to Same same-sending (queued_peers r.state.queue) (per_message r.state.settings.max_message_size) r.state.queue _).counts
same-timer now EvictCache r = plain r _ refl
same-timer now AnnounceDropped r =
    let a = with_state (move_oldest (still_cached r.state) r.state) r in
    plain r _ ((same-schedule (dispatch_if_queued a)).counts ∙ (queued a).counts)

same_first : (now : ℕ) (r : Run) → Same r (first_event now r)
unfolding first_event on_evict_cache_timer act
same_first now r = walk-if Same r.state.init still (plain r _ refl)

module _ (hash : List ℕ → ℕ) where
  gossip-counts : (now sender id : ℕ) (content : List ℕ) (d : Delivery) (r : Run) → (on_gossip hash now sender id content d r).counts ≡ message_counts hash (Gossip id content d) r.state r.counts
  unfolding on_gossip message_counts on_late_graft_reply on_new act
  gossip-counts now sender id content (Swarm round) r =
      if-on (λ (y : Run). y.counts) (not (eqb (hash content) id)) _ _
      ∙ if-both (not (eqb (hash content) id)) refl
      (if-on (λ (y : Run). y.counts) (holds id r.state.received) _ _
      ∙ if-both (holds id r.state.received) (same-late sender id _ r).counts (raised-takes now sender id content round r))
  gossip-counts now sender id content Neighbors r =
      (walk-if Same (not (eqb (hash content) id)) still (walk-if Same (holds id r.state.received) (same-late sender id _ r) (plain r _ refl))).counts

  pub message-counts : (now sender : ℕ) (m : Message) (r : Run) → (on_message hash now sender m r).counts ≡ message_counts hash m r.state r.counts
  unfolding on_message message_counts if_neighbour on_prune update_links
  message-counts now sender (Gossip id content d) r = gossip-counts now sender id content d r
  message-counts now sender Prune r = (walk-if Same (is_neighbour sender r.state.links) (plain r _ refl) still).counts
  message-counts now sender (Graft wanted round) r = (walk-if Same (is_neighbour sender r.state.links) (same-graft sender wanted r) still).counts
  message-counts now sender (IHave hs) r = (walk-if Same (is_neighbour sender r.state.links) (same-ihave sender hs r) still).counts

  pub same-broadcast : (now : ℕ) (content : List ℕ) (r : Run) → Same r (broadcast hash now content r)
  unfolding broadcast broadcast_to mark_received cache_at
  same-broadcast now content r =
      walk-if Same (ltb r.state.settings.max_message_size (gossip_size (length content))) still
      (plain r _ ((walk-eager_push Same same-sending (hash content) content 0 r.state.settings.me [] _).counts ∙ (same-lazy (hash content) 0 r.state.settings.me _).counts))

  -- the counts after the call
  pub decide-counts : (now : ℕ) (e : Event) (s : State) (c : Counts) (rooms : List Room) → whole s ≡ true → (handle hash now e (begin s c rooms)).counts ≡ counts_after_call hash now e s c
  unfolding handle handle_message counts_after_call on_neighbor_up on_neighbor_down update_links
  decide-counts now (Received p m) s c rooms w =
      let r = first_event now (begin s c rooms) in
      message-counts now p m (with_counts (count_message m r.counts) r)
      ∙ ap (λ (x : State). message_counts hash m x (count_message m r.counts)) (first-state now (begin s c rooms) (whole-consistent s w).core)
      ∙ ap (λ (x : Counts). message_counts hash m (settled now s) (count_message m x)) (same_first now (begin s c rooms)).counts
  decide-counts now (Broadcast content) s c rooms w = (same-broadcast now content (first_event now (begin s c rooms))).counts ∙ (same_first now (begin s c rooms)).counts
  decide-counts now (Fired t) s c rooms w = (same-timer now t (first_event now (begin s c rooms))).counts ∙ (same_first now (begin s c rooms)).counts
  decide-counts now (Up as_quiet p) s c rooms w = refl
  decide-counts now (Down p) s c rooms w = refl
