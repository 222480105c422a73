-- Each step keeps two runs `Like`: they have the same counts, room left and actions, and states that differ in the interleaving alone.
-- Assumes nothing.
use Rattle.std.proofs.Common.{ℕ, suc, ◌≡◌, refl, Bool, true, false, not, ◌&&◌, ◌||◌, List, [], ◌∷◌, ◌++◌, leb, ltb, eqb, length, if◌then◌else◌, Option, Some, None}
use Rattle.storage.specs.Lists.Base.{is_empty, filter, count, any, member}
use Rattle.storage.specs.Lists.Map.{keys, insert_key}
use Rattle.time_cache.specs.TimeCache.{holds, get}
use Rattle.postcard.specs.Message.{Delivery, Swarm, Neighbors, Ihave, Message, Gossip, Prune, Graft, IHave, Timer, SendGraft, DispatchLazyPush, EvictCache, AnnounceDropped, Event, Received, Broadcast, Fired, Up, Down, Action, Scheduled, Emitted}
use Rattle.protocol.specs.Links.{Links, lazy_peers, is_neighbour, eager_in, add_eager, add_lazy, link_up}
use Rattle.protocol.specs.State.{Hop, Note, Grafts, Cached, with_init, with_graft_timers, with_dispatch_scheduled, with_announce_scheduled}
use Rattle.protocol.specs.Run.{Run, with_state, with_counts, act, send, takes}
use Rattle.protocol.specs.Push.{schedule_dispatch, schedule_announce_dropped, for_peer, notes, record_full, record_also, note_one, note_each, note_dropped, send_each, handed_back, note_for_each, eager_targets, push_to, eager_push, note_for, lazy_push, send_ihave}
use Rattle.protocol.specs.Gossips.{mark_received, cache_at, announcers, grafted_for, with_first, set_first, graft_out, forget_missing, raise_hops, least_from, far_closer, update_links, graft_unless_eager, prune_back, optimize_tree, forget_and_optimise, push_on, take_in, Late, duplicate, repeated, faster, late_kind, with_kept, set_kept, on_duplicate, on_late_graft_reply, on_new, gossip_size, on_gossip, broadcast_to, broadcast}
use Rattle.protocol.specs.Control.{announce, schedule_graft, on_announced, on_ihave, on_prune, reply_with, reply, on_graft, note_graft, leave_announcers, ask_first, unmark, on_send_graft_timer}
use Rattle.protocol.specs.Ticks.{chunks, queued_for, queued_peers, per_message, send_chunks, dispatch_to, clear_dispatch, on_dispatch_timer, oldest, younger, move_oldest, still_cached, dispatch_if_queued, on_announce_dropped_timer, evict, on_evict_cache_timer}
use Rattle.protocol.specs.Neighbours.{on_neighbor_up, without_notes, forget_peer, on_neighbor_down}
use Rattle.protocol.specs.Handle.{first_event, count_message, if_neighbour, on_timer, on_message, handle_message, handle}
use Rattle.protocol.specs.AlikeCalls.Peerwise.{Peerwise, Like, like}
use Rattle.protocol.proofs.AlikeCallsLaws.PeerLaws.{peerwise-refl, peerwise-append, peerwise-filter, peerwise-count, peerwise-any, peerwise-length, peerwise-empty, peerwise-oldest, peerwise-younger, peerwise-peers}
use Rattle.protocol.specs.declared.TheConstants.{ANNOUNCE_DROPPED_INTERVAL, MAX_DROPPED, MAX_DROPPED_PER_PEER}

like-if : {a b x y : Run} (t : Bool) → Like a b → Like x y → Like (if t then a else x) (if t then b else y)
like-if true l m = l
like-if false l m = m

-- the steps that leave queue and record alone

like-act : {a b : Run} (x : Action) → Like a b → Like (act x a) (act x b)
unfolding act
like-act x (like r q d q' d' e f) = like (act x r) q d q' d' e f

like-send : {a b : Run} (p : ℕ) (m : Message) → Like a b → Like (send p m a) (send p m b)
unfolding send
like-send p m (like r q d q' d' e f) = like (send p m r) q d q' d' e f

like-update_links : {a b : Run} (g : Links → Links) → Like a b → Like (update_links g a) (update_links g b)
unfolding update_links
like-update_links g (like r q d q' d' e f) = like (update_links g r) q d q' d' e f

like-mark_received : {a b : Run} (now id : ℕ) → Like a b → Like (mark_received now id a) (mark_received now id b)
unfolding mark_received
like-mark_received now id (like r q d q' d' e f) = like (mark_received now id r) q d q' d' e f

like-cache_at : {a b : Run} (now id : ℕ) (content : List ℕ) (round : ℕ) → Like a b → Like (cache_at now id content round a) (cache_at now id content round b)
unfolding cache_at
like-cache_at now id content round (like r q d q' d' e f) = like (cache_at now id content round r) q d q' d' e f

like-with_first : {a b : Run} (id : ℕ) (h : Hop) (o : Option Grafts) → Like a b → Like (with_state (with_first id h o a.state) a) (with_state (with_first id h o b.state) b)
unfolding with_first
like-with_first id h None l = l
like-with_first id h (Some g) (like r q d q' d' e f) = like (with_state (with_first id h (Some g) r.state) r) q d q' d' e f

like-set_first : {a b : Run} (id sender round : ℕ) → Like a b → Like (set_first id sender round a) (set_first id sender round b)
unfolding set_first
like-set_first id sender round (like r q d q' d' e f) = like-with_first id _ (get id r.state.grafted) (like r q d q' d' e f)

like-with_kept : {a b : Run} (id p : ℕ) (o : Option Grafts) → Like a b → Like (with_state (with_kept id p o a.state) a) (with_state (with_kept id p o b.state) b)
unfolding with_kept
like-with_kept id p None l = l
like-with_kept id p (Some g) (like r q d q' d' e f) = like (with_state (with_kept id p (Some g) r.state) r) q d q' d' e f

like-set_kept : {a b : Run} (id p : ℕ) → Like a b → Like (set_kept id p a) (set_kept id p b)
unfolding set_kept
like-set_kept id p (like r q d q' d' e f) = like-with_kept id p (get id r.state.grafted) (like r q d q' d' e f)

like-forget_missing : {a b : Run} (id : ℕ) → Like a b → Like (forget_missing id a) (forget_missing id b)
unfolding forget_missing
like-forget_missing id (like r q d q' d' e f) = like (forget_missing id r) q d q' d' e f

like-raise_hops : {a b : Run} (round : ℕ) → Like a b → Like (raise_hops round a) (raise_hops round b)
unfolding raise_hops
like-raise_hops round (like r q d q' d' e f) = like (raise_hops round r) q d q' d' e f

like-announce : {a b : Run} (id : ℕ) (h : Hop) → Like a b → Like (announce id h a) (announce id h b)
unfolding announce announcers
like-announce id h (like r q d q' d' e f) = like (announce id h r) q d q' d' e f

like-schedule_graft : {a b : Run} (id : ℕ) → Like a b → Like (schedule_graft id a) (schedule_graft id b)
unfolding schedule_graft act
like-schedule_graft id (like r q d q' d' e f) =
    like-if (member id r.state.timers.graft) (like r q d q' d' e f) (like-act (Scheduled r.state.settings.graft_timeout_1 (SendGraft id)) (like (with_state (with_graft_timers (insert_key id r.state.timers.graft) r.state) r) q d q' d' e f))

like-note_graft : {a b : Run} (now id : ℕ) (h : Hop) → Like a b → Like (note_graft now id h a) (note_graft now id h b)
unfolding note_graft
like-note_graft now id h (like r q d q' d' e f) = like (note_graft now id h r) q d q' d' e f

like-leave_announcers : {a b : Run} (id : ℕ) (hs : List Hop) → Like a b → Like (leave_announcers id hs a) (leave_announcers id hs b)
unfolding leave_announcers
like-leave_announcers id hs (like r q d q' d' e f) = like (leave_announcers id hs r) q d q' d' e f

like-unmark : {a b : Run} (id : ℕ) → Like a b → Like (unmark id a) (unmark id b)
unfolding unmark
like-unmark id (like r q d q' d' e f) = like (unmark id r) q d q' d' e f

like-clear_dispatch : {a b : Run} → Like a b → Like (clear_dispatch a) (clear_dispatch b)
unfolding clear_dispatch
like-clear_dispatch (like r q d q' d' e f) = like (clear_dispatch r) q d q' d' e f

like-on_evict_cache_timer : {a b : Run} (now : ℕ) → Like a b → Like (on_evict_cache_timer now a) (on_evict_cache_timer now b)
unfolding on_evict_cache_timer act evict
like-on_evict_cache_timer now (like r q d q' d' e f) = like (on_evict_cache_timer now r) q d q' d' e f

like-count_message : {a b : Run} (m : Message) → Like a b → Like (with_counts (count_message m a.counts) a) (with_counts (count_message m b.counts) b)
like-count_message m (like r q d q' d' e f) = like (with_counts (count_message m r.counts) r) q d q' d' e f

-- the two schedulers

like-schedule_dispatch : {a b : Run} → Like a b → Like (schedule_dispatch a) (schedule_dispatch b)
unfolding schedule_dispatch act
like-schedule_dispatch (like r q d q' d' e f) =
    like-if r.state.timers.dispatch (like r q d q' d' e f) (like-act (Scheduled r.state.settings.dispatch_timeout DispatchLazyPush) (like (with_state (with_dispatch_scheduled true r.state) r) q d q' d' e f))

like-schedule_announce_dropped : {a b : Run} → Like a b → Like (schedule_announce_dropped a) (schedule_announce_dropped b)
unfolding schedule_announce_dropped act
like-schedule_announce_dropped (like r q d q' d' e f) =
    rw (peerwise-empty d d' f)
    (like-if (is_empty d' || r.state.timers.announce) (like r q d q' d' e f) (like-act (Scheduled ANNOUNCE_DROPPED_INTERVAL.0 AnnounceDropped) (like (with_state (with_announce_scheduled true r.state) r) q d q' d' e f)))

-- noting

like-note_one : {a b : Run} (p : ℕ) (h : Ihave) → Like a b → Like (note_one p h a) (note_one p h b)
unfolding note_one record_also record_full
like-note_one p h (like r q d q' d' e f) =
    rw (peerwise-count p f, peerwise-length d d' f, peerwise-any p h.id f)
    (like-if (not (leb MAX_DROPPED_PER_PEER (count (for_peer p) d') || leb MAX_DROPPED (length d')) && holds h.id r.state.cache && not (any (notes p h.id) d'))
    (like r q (d ++ one) q' (d' ++ one) e (peerwise-append f (peerwise-refl one))) (like r q d q' d' e f))
  where
    one : List Note
    one = record { peer = p; id = h.id; round = h.round } ∷ []

like-note_each : {a b : Run} (p : ℕ) (hs : List Ihave) → Like a b → Like (note_each p hs a) (note_each p hs b)
unfolding note_each
like-note_each p [] l = l
like-note_each {a = a} {b = b} p (h ∷ hs) l = like-note_each {a = note_one p h a} {b = note_one p h b} p hs (like-note_one p h l)

like-note_dropped : {a b : Run} (p : ℕ) (hs : List Ihave) → Like a b → Like (note_dropped p hs a) (note_dropped p hs b)
unfolding note_dropped
like-note_dropped p hs (like r q d q' d' e f) =
    like-if (is_neighbour p r.state.links) (like-schedule_announce_dropped (like-note_each p hs (like r q d q' d' e f))) (like r q d q' d' e f)

like-note_for_each : {a b : Run} (ps : List ℕ) (h : Ihave) → Like a b → Like (note_for_each ps h a) (note_for_each ps h b)
unfolding note_for_each
like-note_for_each [] h l = l
like-note_for_each {a = a} {b = b} (p ∷ ps) h l = like-note_for_each {a = note_dropped p (h ∷ []) a} {b = note_dropped p (h ∷ []) b} ps h (like-note_dropped p (h ∷ []) l)

-- pushes

like-send_each : {a b : Run} (ps : List ℕ) (m : Message) → Like a b → Like (send_each ps m a) (send_each ps m b)
unfolding send_each
like-send_each [] m l = l
like-send_each {a = a} {b = b} (p ∷ ps) m l = like-send_each {a = send p m a} {b = send p m b} ps m (like-send p m l)

takes_same : {a b : Run} (p : ℕ) → Like a b → takes p a ≡ takes p b
takes_same p (like r q d q' d' e f) = refl

handed_back-same : {a b : Run} (ps : List ℕ) (m : Message) → Like a b → handed_back ps m a ≡ handed_back ps m b
unfolding handed_back
handed_back-same [] m l = refl
handed_back-same {a = a} {b = b} (p ∷ ps) m l = rw (takes_same p l, handed_back-same {a = send p m a} {b = send p m b} ps m (like-send p m l))

like-push_to : {a b : Run} (ps : List ℕ) (id : ℕ) (content : List ℕ) (round : ℕ) → Like a b → Like (push_to ps id content round a) (push_to ps id content round b)
unfolding push_to
like-push_to ps id content round l =
    rw (handed_back-same ps (Gossip id content (Swarm round)) l) (like-note_for_each _ (record { id = id; round = round }) (like-send_each ps (Gossip id content (Swarm round)) l))

like-eager_push : {a b : Run} (id : ℕ) (content : List ℕ) (round sender : ℕ) (skip : List ℕ) → Like a b → Like (eager_push id content round sender skip a) (eager_push id content round sender skip b)
unfolding eager_push eager_targets
like-eager_push id content round sender skip (like r q d q' d' e f) = like-push_to _ id content round (like r q d q' d' e f)

like-lazy_push : {a b : Run} (id round sender : ℕ) → Like a b → Like (lazy_push id round sender a) (lazy_push id round sender b)
unfolding lazy_push
like-lazy_push id round sender (like r q d q' d' e f) =
    let new = note_for (filter (λ p. not (eqb p sender)) (lazy_peers r.state.links)) id round in
    like-schedule_dispatch (like r (q ++ new) d (q' ++ new) d' (peerwise-append e (peerwise-refl new)) f)

like-send_ihave : {a b : Run} (p : ℕ) (hs : List Ihave) → Like a b → Like (send_ihave p hs a) (send_ihave p hs b)
unfolding send_ihave
like-send_ihave {b = b} p hs l = rw (takes_same p l) (like-if (takes p b) (like-send p (IHave hs) l) (like-note_dropped p hs (like-send p (IHave hs) l)))

-- gossip

like-prune_back : {a b : Run} (p : ℕ) → Like a b → Like (prune_back p a) (prune_back p b)
unfolding prune_back
like-prune_back p l = like-send p Prune (like-update_links (add_lazy p) l)

like-graft_unless_eager : {a b : Run} (h : Hop) → Like a b → Like (graft_unless_eager h a) (graft_unless_eager h b)
unfolding graft_unless_eager
like-graft_unless_eager h (like r q d q' d' e f) =
    let l = like r q d q' d' e f in
    like-if (eager_in h.peer r.state.links) l (like-send h.peer (Graft None h.round) (like-update_links (add_eager h.peer) l))

like-optimize_tree : {a b : Run} (sender round : ℕ) (hs : List Hop) → Like a b → Like (optimize_tree sender round hs a) (optimize_tree sender round hs b)
unfolding optimize_tree
like-optimize_tree sender round [] l = l
like-optimize_tree sender round (h ∷ hs) (like r q d q' d' e f) =
    let l = like r q d q' d' e f in
    like-if (far_closer r.state.settings.optimization_threshold round (least_from h hs).round) (like-prune_back sender (like-graft_unless_eager (least_from h hs) l)) l

like-forget_and_optimise : {a b : Run} (id sender round : ℕ) → Like a b → Like (forget_and_optimise id sender round a) (forget_and_optimise id sender round b)
unfolding forget_and_optimise grafted_for announcers
like-forget_and_optimise id sender round (like r q d q' d' e f) =
    let l = like r q d q' d' e f in
    like-if (is_neighbour sender r.state.links && not (graft_out sender round (grafted_for id r.state)))
    (like-optimize_tree sender (suc round) (announcers id r.state) (like-forget_missing id l)) (like-forget_missing id l)

like-push_on : {a b : Run} (id : ℕ) (content : List ℕ) (round sender : ℕ) → Like a b → Like (push_on id content round sender a) (push_on id content round sender b)
unfolding push_on grafted_for
like-push_on id content round sender (like r q d q' d' e f) = like-eager_push id content round sender (keys (grafted_for id r.state)) (like r q d q' d' e f)

like-take_in : {a b : Run} (now sender id : ℕ) (content : List ℕ) (round : ℕ) → Like a b → Like (take_in now sender id content round a) (take_in now sender id content round b)
unfolding take_in
like-take_in now sender id content round l =
    like-raise_hops (suc round) (like-forget_and_optimise id sender round (like-lazy_push id (suc round) sender (like-push_on id content (suc round) sender
    (like-set_first id sender round (like-cache_at now id content (suc round) (like-mark_received now id l))))))

like-on_duplicate : {a b : Run} (sender id : ℕ) (k : Late) → Like a b → Like (on_duplicate sender id k a) (on_duplicate sender id k b)
unfolding on_duplicate
like-on_duplicate sender id duplicate l = like-prune_back sender l
like-on_duplicate sender id repeated l = l
like-on_duplicate sender id (faster first) l = like-prune_back first (like-set_kept id sender l)

like-on_late_graft_reply : {a b : Run} (sender id : ℕ) (d : Delivery) → Like a b → Like (on_late_graft_reply sender id d a) (on_late_graft_reply sender id d b)
unfolding on_late_graft_reply
like-on_late_graft_reply sender id d (like r q dr q' d' e f) = like-on_duplicate sender id (late_kind sender d r.state.links (get id r.state.grafted)) (like r q dr q' d' e f)

like-on_new : {a b : Run} (now sender id : ℕ) (content : List ℕ) (d : Delivery) → Like a b → Like (on_new now sender id content d a) (on_new now sender id content d b)
unfolding on_new
like-on_new now sender id content (Swarm round) l = like-act (Emitted sender content (Swarm round)) (like-take_in now sender id content round l)
like-on_new now sender id content Neighbors l = like-act (Emitted sender content Neighbors) l

-- control

like-on_announced : {a b : Run} (sender : ℕ) (h : Ihave) → Like a b → Like (on_announced sender h a) (on_announced sender h b)
unfolding on_announced
like-on_announced sender h (like r q d q' d' e f) =
    let l = like r q d q' d' e f in
    like-if (holds h.id r.state.received) l (like-schedule_graft h.id (like-announce h.id (record { peer = sender; round = h.round }) l))

like-on_ihave : {a b : Run} (sender : ℕ) (hs : List Ihave) → Like a b → Like (on_ihave sender hs a) (on_ihave sender hs b)
unfolding on_ihave
like-on_ihave sender [] l = l
like-on_ihave {a = a} {b = b} sender (h ∷ hs) l = like-on_ihave {a = on_announced sender h a} {b = on_announced sender h b} sender hs (like-on_announced sender h l)

like-on_prune : {a b : Run} (sender : ℕ) → Like a b → Like (on_prune sender a) (on_prune sender b)
unfolding on_prune
like-on_prune sender l = like-update_links (add_lazy sender) l

like-reply_with : {a b : Run} (sender id : ℕ) (o : Option Cached) → Like a b → Like (reply_with sender id o a) (reply_with sender id o b)
unfolding reply_with
like-reply_with sender id None l = l
like-reply_with {b = b} sender id (Some c) l =
    let m = Gossip id c.content (Swarm c.round) in
    rw (takes_same sender l) (like-if (takes sender b) (like-send sender m l) (like-note_dropped sender (record { id = id; round = c.round } ∷ []) (like-send sender m l)))

like-reply : {a b : Run} (sender : ℕ) (o : Option ℕ) → Like a b → Like (reply sender o a) (reply sender o b)
unfolding reply
like-reply sender None l = l
like-reply sender (Some id) (like r q d q' d' e f) = like-reply_with sender id (get id r.state.cache) (like r q d q' d' e f)

like-on_graft : {a b : Run} (sender : ℕ) (o : Option ℕ) → Like a b → Like (on_graft sender o a) (on_graft sender o b)
unfolding on_graft
like-on_graft sender o l = like-reply sender o (like-update_links (add_eager sender) l)

like-ask_first : {a b : Run} (now id : ℕ) (hs : List Hop) → Like a b → Like (ask_first now id hs a) (ask_first now id hs b)
unfolding ask_first
like-ask_first now id [] l = l
like-ask_first now id (h ∷ hs) (like r q d q' d' e f) =
    like-act (Scheduled r.state.settings.graft_timeout_2 (SendGraft id)) (like-send h.peer (Graft (Some id) h.round) (like-note_graft now id h
    (like-update_links (add_eager h.peer) (like-leave_announcers id hs (like r q d q' d' e f)))))

like-on_send_graft_timer : {a b : Run} (now id : ℕ) → Like a b → Like (on_send_graft_timer now id a) (on_send_graft_timer now id b)
unfolding on_send_graft_timer announcers
like-on_send_graft_timer now id (like r q d q' d' e f) =
    let l = like r q d q' d' e f in
    like-if (holds id r.state.received) (like-unmark id l) (like-ask_first now id (announcers id r.state) (like-unmark id l))

-- ticks

like-send_chunks : {a b : Run} (p : ℕ) (cs : List (List Ihave)) → Like a b → Like (send_chunks p cs a) (send_chunks p cs b)
unfolding send_chunks
like-send_chunks p [] l = l
like-send_chunks {a = a} {b = b} p (hs ∷ cs) l = like-send_chunks {a = send_ihave p hs a} {b = send_ihave p hs b} p cs (like-send_ihave p hs l)

queued_for-same : {xs ys : List Note} (p : ℕ) → Peerwise xs ys → queued_for p xs ≡ queued_for p ys
unfolding queued_for
queued_for-same p h = rw (h.same p)

like-dispatch_to : {a b : Run} (ps : List ℕ) (k : ℕ) (xs ys : List Note) → Peerwise xs ys → Like a b → Like (dispatch_to ps k xs a) (dispatch_to ps k ys b)
unfolding dispatch_to
like-dispatch_to [] k xs ys h l = l
like-dispatch_to {a = a} {b = b} (p ∷ ps) k xs ys h l =
    rw (peerwise-length xs ys h, queued_for-same p h)
    (like-dispatch_to {a = send_chunks p (chunks (length ys) k (queued_for p ys)) a} {b = send_chunks p (chunks (length ys) k (queued_for p ys)) b} ps k xs ys h (like-send_chunks p (chunks (length ys) k (queued_for p ys)) l))

like-on_dispatch_timer : {a b : Run} → Like a b → Like (on_dispatch_timer a) (on_dispatch_timer b)
unfolding on_dispatch_timer
like-on_dispatch_timer (like r q d q' d' e f) =
    rw (peerwise-peers e) (like-clear_dispatch (like-dispatch_to (queued_peers q') (per_message r.state.settings.max_message_size) q q' e (like r [] d [] d' (peerwise-refl []) f)))

like-dispatch_if_queued : {a b : Run} → Like a b → Like (dispatch_if_queued a) (dispatch_if_queued b)
unfolding dispatch_if_queued
like-dispatch_if_queued (like r q d q' d' e f) = rw (peerwise-empty q q' e) (like-if (is_empty q') (like r q d q' d' e f) (like-schedule_dispatch (like r q d q' d' e f)))

like-on_announce_dropped_timer : {a b : Run} → Like a b → Like (on_announce_dropped_timer a) (on_announce_dropped_timer b)
unfolding on_announce_dropped_timer move_oldest still_cached
like-on_announce_dropped_timer (like r q d q' d' e f) =
    let still = peerwise-filter (λ n. holds n.id r.state.cache) f in
    like-schedule_announce_dropped (like-dispatch_if_queued (like (with_state (with_announce_scheduled false r.state) r)
    (q ++ oldest [] (filter (λ n. holds n.id r.state.cache) d)) (younger [] (filter (λ n. holds n.id r.state.cache) d))
    (q' ++ oldest [] (filter (λ n. holds n.id r.state.cache) d')) (younger [] (filter (λ n. holds n.id r.state.cache) d'))
    (peerwise-append e (peerwise-oldest still)) (peerwise-younger still)))

-- events

like-on_neighbor_down : {a b : Run} (p : ℕ) → Like a b → Like (on_neighbor_down p a) (on_neighbor_down p b)
unfolding on_neighbor_down forget_peer without_notes
like-on_neighbor_down p (like r q d q' d' e f) =
    like (with_state (forget_peer p r.state) r) (filter (λ n. not (for_peer p n)) q) (filter (λ n. not (for_peer p n)) d) (filter (λ n. not (for_peer p n)) q') (filter (λ n. not (for_peer p n)) d')
    (peerwise-filter (λ n. not (for_peer p n)) e) (peerwise-filter (λ n. not (for_peer p n)) f)

like-on_neighbor_up : {a b : Run} (as_quiet : Bool) (p : ℕ) → Like a b → Like (on_neighbor_up as_quiet p a) (on_neighbor_up as_quiet p b)
unfolding on_neighbor_up
like-on_neighbor_up as_quiet p l = like-update_links (link_up as_quiet p) l

pub like-first_event : {a b : Run} (now : ℕ) → Like a b → Like (first_event now a) (first_event now b)
unfolding first_event
like-first_event now (like r q d q' d' e f) = like-if r.state.init (like r q d q' d' e f) (like-on_evict_cache_timer now (like (with_state (with_init true r.state) r) q d q' d' e f))

like-if_neighbour : {a b : Run} (p : ℕ) (g : Run → Run) → Like (g a) (g b) → Like a b → Like (if_neighbour p g a) (if_neighbour p g b)
unfolding if_neighbour
like-if_neighbour p g m (like r q d q' d' e f) = like-if (is_neighbour p r.state.links) m (like r q d q' d' e f)

like-on_timer : {a b : Run} (now : ℕ) (t : Timer) → Like a b → Like (on_timer now t a) (on_timer now t b)
unfolding on_timer
like-on_timer now (SendGraft id) l = like-on_send_graft_timer now id l
like-on_timer now DispatchLazyPush l = like-on_dispatch_timer l
like-on_timer now EvictCache l = like-on_evict_cache_timer now l
like-on_timer now AnnounceDropped l = like-on_announce_dropped_timer l

module _ (hash : List ℕ → ℕ) where
  like-on_gossip : {a b : Run} (now sender id : ℕ) (content : List ℕ) (d : Delivery) → Like a b → Like (on_gossip hash now sender id content d a) (on_gossip hash now sender id content d b)
  unfolding on_gossip
  like-on_gossip now sender id content d (like r q dr q' d' e f) =
      let l = like r q dr q' d' e f in
      like-if (not (eqb (hash content) id)) l (like-if (holds id r.state.received) (like-on_late_graft_reply sender id d l) (like-on_new now sender id content d l))

  like-broadcast_to : {a b : Run} (now : ℕ) (content : List ℕ) → Like a b → Like (broadcast_to hash now content a) (broadcast_to hash now content b)
  unfolding broadcast_to
  like-broadcast_to now content (like r q d q' d' e f) =
      like-eager_push (hash content) content 0 r.state.settings.me []
      (like-lazy_push (hash content) 0 r.state.settings.me (like-cache_at now (hash content) content 0 (like-mark_received now (hash content) (like r q d q' d' e f))))

  like-broadcast : {a b : Run} (now : ℕ) (content : List ℕ) → Like a b → Like (broadcast hash now content a) (broadcast hash now content b)
  unfolding broadcast
  like-broadcast now content (like r q d q' d' e f) =
      let l = like r q d q' d' e f in
      like-if (ltb r.state.settings.max_message_size (gossip_size (length content))) l (like-broadcast_to now content l)

  like-on_message : {a b : Run} (now sender : ℕ) (m : Message) → Like a b → Like (on_message hash now sender m a) (on_message hash now sender m b)
  unfolding on_message
  like-on_message now sender (Gossip id content d) l = like-on_gossip now sender id content d l
  like-on_message now sender Prune l = like-if_neighbour sender (on_prune sender) (like-on_prune sender l) l
  like-on_message now sender (Graft wanted round) l = like-if_neighbour sender (on_graft sender wanted) (like-on_graft sender wanted l) l
  like-on_message now sender (IHave hs) l = like-if_neighbour sender (on_ihave sender hs) (like-on_ihave sender hs l) l

  -- an event: every step of it
  pub like-handle : {a b : Run} (now : ℕ) (v : Event) → Like a b → Like (handle hash now v a) (handle hash now v b)
  unfolding handle handle_message
  like-handle now (Received p m) l = like-on_message now p m (like-count_message m (like-first_event now l))
  like-handle now (Broadcast content) l = like-broadcast now content (like-first_event now l)
  like-handle now (Fired t) l = like-on_timer now t (like-first_event now l)
  like-handle now (Up as_quiet p) l = like-on_neighbor_up as_quiet p l
  like-handle now (Down p) l = like-on_neighbor_down p l
