-- A run depends on the rooms only at the peers to which it sends: two room lists that agree there give the same run (rooms left apart).
use Rattle.std.proofs.Common.{ℕ, suc, ◌≡◌, refl, sym, ap, subst, ◌∙◌, Bool, true, false, not, ◌&&◌, ◌||◌, List, [], ◌∷◌, ◌++◌, map, ltb, eqb, length, eq-eqb, eqb-true, if◌then◌else◌, Option, Some, None}
use Rattle.storage.specs.Lists.Base.{is_empty, any, member}
use Rattle.storage.specs.Lists.Map.{keys}
use Rattle.time_cache.specs.TimeCache.{get, holds, expired_keys}
use Rattle.protocol.specs.Links.{Links, is_neighbour, eager_in, add_eager, add_lazy, link_up}
use Rattle.postcard.specs.Message.{Delivery, Swarm, Neighbors, Ihave, Message, Gossip, Prune, Graft, IHave, Timer, SendGraft, DispatchLazyPush, EvictCache, AnnounceDropped, Event, Received, Broadcast, Fired, Up, Down, Action, Sent, Scheduled, Emitted, Forgotten}
use Rattle.protocol.specs.State.{State, Note, Hop, Cached}
use Rattle.protocol.specs.Run.{Run, Room, with_state, with_counts, act, has_room, use_room, takes, send}
use Rattle.protocol.specs.Push.{notes, schedule_dispatch, schedule_announce_dropped, record_full, record_also, note_one, note_each, note_dropped, send_each, handed_back, note_for_each, push_to, eager_push, lazy_push, send_ihave, eager_targets}
use Rattle.protocol.specs.Gossips.{mark_received, cache_at, announcers, grafted_for, set_first, graft_out, forget_missing, raise_hops, least_from, far_closer, update_links, graft_unless_eager, prune_back, optimize_tree, forget_and_optimise, push_on, take_in, Late, duplicate, repeated, faster, late_kind, set_kept, on_duplicate, on_late_graft_reply, on_new, gossip_size, on_gossip, broadcast_to, broadcast}
use Rattle.protocol.specs.Control.{announce, schedule_graft, on_announced, on_ihave, on_prune, reply_with, reply, on_graft, note_graft, leave_announcers, ask_first, unmark, on_send_graft_timer}
use Rattle.protocol.specs.Ticks.{per_message, queued_peers, chunks, queued_for, send_chunks, dispatch_to, clear_dispatch, on_dispatch_timer, move_oldest, still_cached, dispatch_if_queued, on_announce_dropped_timer, evict, tell_forgotten, on_evict_cache_timer}
use Rattle.protocol.specs.Neighbours.{on_neighbor_up, on_neighbor_down}
use Rattle.protocol.specs.Handle.{first_event, count_message, if_neighbour, on_timer, on_message, handle_message, handle}
use Rattle.decide.specs.Rooms.{kth_taken}
use Rattle.storage.proofs.ListsLaws.MapLaws.{cases}
use Rattle.storage.proofs.ListsLaws.Lists.{any_left, any-right}
use Rattle.decide.proofs.RoomLaws.{has_first, kth-used-same, kth-used-other}

-- the same run with other rooms left
abbrev pub with_rooms : List Room → Run → Run
with_rooms rooms r = record { state = r.state; counts = r.counts; rooms = rooms; actions = r.actions }

abbrev pub to_peer : ℕ → Action → Bool
to_peer p (Sent q taken m) = eqb q p
to_peer p (Scheduled delay t) = false
to_peer p (Emitted q content d) = false
to_peer p (Forgotten id) = false

-- something is sent to the peer
abbrev pub sent_to : ℕ → List Action → Bool
sent_to p as' = any (to_peer p) as'

-- the rooms agree at the peers that pass the test
abbrev pub AgreeOn : (ℕ → Bool) → List Room → List Room → Type 0
AgreeOn P rooms rooms' = (k p : ℕ) → P p ≡ true → kth_taken (suc k) p rooms ≡ kth_taken (suc k) p rooms'

pub record Out (P : ℕ → Bool) (x y : Run) : Type 0 where
  pub same : y ≡ with_rooms y.rooms x
  pub agree : AgreeOn P y.rooms x.rooms

-- `x` is what a step makes of `r`, and `y rooms` what it makes of `r` with these rooms
pub record FairPair (r x : Run) (y : List Room → Run) : Type 0 where
  pub grows : (p : ℕ) → sent_to p r.actions ≡ true → sent_to p x.actions ≡ true
  pub out : (P : ℕ → Bool) → ((p : ℕ) → sent_to p x.actions ≡ true → P p ≡ true) → (rooms : List Room) → AgreeOn P rooms r.rooms → Out P x (y rooms)

abbrev pub Fair : (Run → Run) → Run → Type 0
Fair f r = FairPair r (f r) (λ rooms. f (with_rooms rooms r))

fair-then : (r x : Run) (y : List Room → Run) (g : Run → Run) → FairPair r x y → Fair g x → FairPair r (g x) (λ rooms. g (y rooms))
fair-then r x y g f h = record {
  grows = λ p s. h.grows p (f.grows p s);
  out = λ P c rooms a.
      let o = f.out P (λ p s. c p (h.grows p s)) rooms a in
      subst (λ (t : Run). Out P (g x) (g t)) (sym o.same) (h.out P c (y rooms).rooms o.agree);
}

-- one step, then another
seq : (f g : Run → Run) (r : Run) → Fair f r → Fair g (f r) → FairPair r (g (f r)) (λ rooms. g (f (with_rooms rooms r)))
seq f g r a b = fair-then r (f r) (λ rooms. f (with_rooms rooms r)) g a b

fair-refl : (r : Run) → FairPair r r (λ rooms. with_rooms rooms r)
fair-refl r = record { grows = λ p s. s; out = λ P c rooms a. record { same = refl; agree = a } }

fair-if : (b : Bool) (r x z : Run) (y w : List Room → Run) → FairPair r x y → FairPair r z w → FairPair r (if b then x else z) (λ rooms. if b then y rooms else w rooms)
fair-if true r x z y w k l = k
fair-if false r x z y w k l = l

-- a step that does not touch rooms and actions
quiet : (r x : Run) → x.rooms ≡ r.rooms → x.actions ≡ r.actions → FairPair r x (λ rooms. with_rooms rooms x)
quiet r x e d = record { grows = λ p s. rw d s; out = λ P c rooms a. record { same = refl; agree = λ k p h. a k p h ∙ ap (kth_taken (suc k) p) (sym e) } }

fair-act : (a : Action) (r : Run) → Fair (act a) r
unfolding act
fair-act a r = record { grows = λ p s. any_left (to_peer p) r.actions (a ∷ []) s; out = λ P c rooms e. record { same = refl; agree = e } }

sent-last : (p : ℕ) (taken : Bool) (m : Message) (xs : List Action) → sent_to p (xs ++ (Sent p taken m ∷ [])) ≡ true
sent-last p taken m xs = any-right (to_peer p) xs (Sent p taken m ∷ []) (unfold any in (rw (eq-eqb p p refl) refl))

used-agree : (P : ℕ → Bool) (p : ℕ) (rooms rooms' : List Room) → P p ≡ true → AgreeOn P rooms rooms' → AgreeOn P (use_room p rooms) (use_room p rooms')
used-agree P p rooms rooms' h a k q g =
    cases (eqb q p)
    (λ e. rw (eqb-true q p e) (kth-used-same k p rooms ∙ a (suc k) p h ∙ sym (kth-used-same k p rooms')))
    (λ e. kth-used-other (suc k) q p rooms e ∙ a k q g ∙ sym (kth-used-other (suc k) q p rooms' e))

same-room : (P : ℕ → Bool) (p : ℕ) (rooms rooms' : List Room) → P p ≡ true → AgreeOn P rooms rooms' → has_room p rooms ≡ has_room p rooms'
same-room P p rooms rooms' h a = has_first p rooms ∙ a 0 p h ∙ sym (has_first p rooms')

pub fair-send : (p : ℕ) (m : Message) (r : Run) → Fair (send p m) r
unfolding send
fair-send p m r = record {
  grows = λ q s. any_left (to_peer q) r.actions (Sent p (takes p r) m ∷ []) s;
  out = λ P c rooms a.
      let h : P p ≡ true = c p (sent-last p (takes p r) m r.actions) in
      record {
        same = rw (same-room P p rooms r.rooms h a) refl;
        agree = used-agree P p rooms r.rooms h a;
      };
}

-- the state is changed, then an action
stated : (s : State) (a : Action) (r : Run) → FairPair r (act a (with_state s r)) (λ rooms. act a (with_state s (with_rooms rooms r)))
stated s a r = fair-then r (with_state s r) (λ rooms. with_state s (with_rooms rooms r)) (act a) (quiet r (with_state s r) refl refl) (fair-act a (with_state s r))

-- the pushes

fair-schedule_dispatch : (r : Run) → Fair schedule_dispatch r
unfolding schedule_dispatch
fair-schedule_dispatch r = fair-if r.state.timers.dispatch r _ _ _ _ (fair-refl r) (stated _ _ r)

fair-schedule_announce : (r : Run) → Fair schedule_announce_dropped r
unfolding schedule_announce_dropped
fair-schedule_announce r = fair-if (is_empty r.state.dropped || r.state.timers.announce) r _ _ _ _ (fair-refl r) (stated _ _ r)

fair-note_one : (p : ℕ) (h : Ihave) (r : Run) → Fair (note_one p h) r
unfolding note_one record_also
fair-note_one p h r = fair-if (not (record_full p r.state.dropped) && holds h.id r.state.cache && not (any (notes p h.id) r.state.dropped)) r _ _ _ _ (quiet r _ refl refl) (fair-refl r)

fair-note_each : (p : ℕ) (hs : List Ihave) (r : Run) → Fair (note_each p hs) r
unfolding note_each
fair-note_each p [] r = fair-refl r
fair-note_each p (h ∷ hs) r = seq (note_one p h) (note_each p hs) r (fair-note_one p h r) (fair-note_each p hs (note_one p h r))

fair-note_dropped : (p : ℕ) (hs : List Ihave) (r : Run) → Fair (note_dropped p hs) r
unfolding note_dropped
fair-note_dropped p hs r =
    fair-if (is_neighbour p r.state.links) r _ _ _ _ (seq (note_each p hs) schedule_announce_dropped r (fair-note_each p hs r) (fair-schedule_announce (note_each p hs r))) (fair-refl r)

fair-send_each : (ps : List ℕ) (m : Message) (r : Run) → Fair (send_each ps m) r
unfolding send_each
fair-send_each [] m r = fair-refl r
fair-send_each (p ∷ ps) m r = seq (send p m) (send_each ps m) r (fair-send p m r) (fair-send_each ps m (send p m r))

fair-note_for_each : (ps : List ℕ) (h : Ihave) (r : Run) → Fair (note_for_each ps h) r
unfolding note_for_each
fair-note_for_each [] h r = fair-refl r
fair-note_for_each (p ∷ ps) h r = seq (note_dropped p (h ∷ [])) (note_for_each ps h) r (fair-note_dropped p (h ∷ []) r) (fair-note_for_each ps h (note_dropped p (h ∷ []) r))

sent-now : (p : ℕ) (m : Message) (r : Run) → sent_to p (send p m r).actions ≡ true
unfolding send
sent-now p m r = sent-last p (takes p r) m r.actions

handed-same : (P : ℕ → Bool) (ps : List ℕ) (m : Message) (r : Run) (rooms : List Room) → ((p : ℕ) → sent_to p (send_each ps m r).actions ≡ true → P p ≡ true) → AgreeOn P rooms r.rooms →
    handed_back ps m (with_rooms rooms r) ≡ handed_back ps m r
unfolding handed_back send_each
handed-same P [] m r rooms c a = refl
handed-same P (p ∷ ps) m r rooms c a =
    let h : P p ≡ true = c p ((fair-send_each ps m (send p m r)).grows p (sent-now p m r)) in
    let o = (fair-send p m r).out P (λ q s. c q ((fair-send_each ps m (send p m r)).grows q s)) rooms a in
    let t : handed_back ps m (send p m (with_rooms rooms r)) ≡ handed_back ps m (send p m r) =
    ap (handed_back ps m) o.same ∙ handed-same P ps m (send p m r) (send p m (with_rooms rooms r)).rooms c o.agree in
    rw (same-room P p rooms r.rooms h a, t) refl

fair-push_to : (ps : List ℕ) (id : ℕ) (content : List ℕ) (round : ℕ) (r : Run) → Fair (push_to ps id content round) r
unfolding push_to
fair-push_to ps id content round r =
    let m = Gossip id content (Swarm round) in
    let h : Ihave = record { id = id; round = round } in
    let n = fair-note_for_each (handed_back ps m r) h (send_each ps m r) in
    let b = seq (send_each ps m) (note_for_each (handed_back ps m r) h) r (fair-send_each ps m r) n in
    record {
      grows = b.grows;
      out = λ P c rooms a. rw (handed-same P ps m r rooms (λ p s. c p (n.grows p s)) a) (b.out P c rooms a);
    }

fair-eager_push : (id : ℕ) (content : List ℕ) (round sender : ℕ) (skip : List ℕ) (r : Run) → Fair (eager_push id content round sender skip) r
unfolding eager_push
fair-eager_push id content round sender skip r = fair-push_to (eager_targets sender skip r.state) id content round r

fair-lazy_push : (id round sender : ℕ) (r : Run) → Fair (lazy_push id round sender) r
unfolding lazy_push
fair-lazy_push id round sender r = fair-then r (with_state _ r) (λ rooms. with_state _ (with_rooms rooms r)) schedule_dispatch (quiet r (with_state _ r) refl refl) (fair-schedule_dispatch (with_state _ r))

-- a send that is noted if it is handed back
fair-noting : (p : ℕ) (m : Message) (hs : List Ihave) (r : Run) → FairPair r (if takes p r then send p m r else note_dropped p hs (send p m r))
    (λ rooms. if has_room p rooms then send p m (with_rooms rooms r) else note_dropped p hs (send p m (with_rooms rooms r)))
fair-noting p m hs r =
    let n = fair-note_dropped p hs (send p m r) in
    let b = fair-if (takes p r) r _ _ _ _ (fair-send p m r) (seq (send p m) (note_dropped p hs) r (fair-send p m r) n) in
    record {
      grows = b.grows;
      out = λ P c rooms a. rw (same-room P p rooms r.rooms (c p (by (takes p r))) a) (b.out P c rooms a);
    }
  where
    by : (b : Bool) → sent_to p (if b then send p m r else note_dropped p hs (send p m r)).actions ≡ true
    by true = sent-now p m r
    by false = (fair-note_dropped p hs (send p m r)).grows p (sent-now p m r)

fair-send_ihave : (p : ℕ) (hs : List Ihave) (r : Run) → Fair (send_ihave p hs) r
unfolding send_ihave
fair-send_ihave p hs r = fair-noting p (IHave hs) hs r

fair-send_chunks : (p : ℕ) (cs : List (List Ihave)) (r : Run) → Fair (send_chunks p cs) r
unfolding send_chunks
fair-send_chunks p [] r = fair-refl r
fair-send_chunks p (c ∷ cs) r = seq (send_ihave p c) (send_chunks p cs) r (fair-send_ihave p c r) (fair-send_chunks p cs (send_ihave p c r))

fair-dispatch_to : (ps : List ℕ) (k : ℕ) (ns : List Note) (r : Run) → Fair (dispatch_to ps k ns) r
unfolding dispatch_to
fair-dispatch_to [] k ns r = fair-refl r
fair-dispatch_to (p ∷ ps) k ns r =
    seq (send_chunks p (chunks (length ns) k (queued_for p ns))) (dispatch_to ps k ns) r (fair-send_chunks p (chunks (length ns) k (queued_for p ns)) r) (fair-dispatch_to ps k ns (send_chunks p (chunks (length ns) k (queued_for p ns)) r))

-- gossip

fair-links_of : (f : Links → Links) (r : Run) → Fair (update_links f) r
unfolding update_links
fair-links_of f r = quiet r _ refl refl

fair-prune_back : (p : ℕ) (r : Run) → Fair (prune_back p) r
unfolding prune_back
fair-prune_back p r = seq (update_links (add_lazy p)) (send p Prune) r (fair-links_of (add_lazy p) r) (fair-send p Prune (update_links (add_lazy p) r))

fair-graft_unless_eager : (h : Hop) (r : Run) → Fair (graft_unless_eager h) r
unfolding graft_unless_eager
fair-graft_unless_eager h r =
    fair-if (eager_in h.peer r.state.links) r _ _ _ _ (fair-refl r) (seq (update_links (add_eager h.peer)) (send h.peer (Graft None h.round)) r (fair-links_of (add_eager h.peer) r) (fair-send h.peer (Graft None h.round) (update_links (add_eager h.peer) r)))

fair-optimize_tree : (sender round : ℕ) (hs : List Hop) (r : Run) → Fair (optimize_tree sender round hs) r
unfolding optimize_tree
fair-optimize_tree sender round [] r = fair-refl r
fair-optimize_tree sender round (h ∷ hs) r =
    fair-if (far_closer r.state.settings.optimization_threshold round (least_from h hs).round) r _ _ _ _
    (seq (graft_unless_eager (least_from h hs)) (prune_back sender) r (fair-graft_unless_eager (least_from h hs) r) (fair-prune_back sender (graft_unless_eager (least_from h hs) r))) (fair-refl r)

fair-forget_missing : (id : ℕ) (r : Run) → Fair (forget_missing id) r
unfolding forget_missing
fair-forget_missing id r = quiet r _ refl refl

fair-forget_and_optimise : (id sender round : ℕ) (r : Run) → Fair (forget_and_optimise id sender round) r
unfolding forget_and_optimise
fair-forget_and_optimise id sender round r =
    fair-if (is_neighbour sender r.state.links && not (graft_out sender round (grafted_for id r.state))) r _ _ _ _
    (seq (forget_missing id) (optimize_tree sender (suc round) (announcers id r.state)) r (fair-forget_missing id r) (fair-optimize_tree sender (suc round) (announcers id r.state) (forget_missing id r))) (fair-forget_missing id r)

fair-push_on : (id : ℕ) (content : List ℕ) (round sender : ℕ) (r : Run) → Fair (push_on id content round sender) r
unfolding push_on
fair-push_on id content round sender r = fair-eager_push id content round sender (keys (grafted_for id r.state)) r

fair-raise_hops : (round : ℕ) (r : Run) → Fair (raise_hops round) r
unfolding raise_hops
fair-raise_hops round r = quiet r _ refl refl

fair-mark_received : (now id : ℕ) (r : Run) → Fair (mark_received now id) r
unfolding mark_received
fair-mark_received now id r = quiet r _ refl refl

fair-cache_at : (now id : ℕ) (content : List ℕ) (round : ℕ) (r : Run) → Fair (cache_at now id content round) r
unfolding cache_at
fair-cache_at now id content round r = quiet r _ refl refl

fair-set_first : (id sender round : ℕ) (r : Run) → Fair (set_first id sender round) r
unfolding set_first
fair-set_first id sender round r = quiet r _ refl refl

fair-keep : (id p : ℕ) (r : Run) → Fair (set_kept id p) r
unfolding set_kept
fair-keep id p r = quiet r _ refl refl

fair-take_in : (now sender id : ℕ) (content : List ℕ) (round : ℕ) (r : Run) → Fair (take_in now sender id content round) r
unfolding take_in
fair-take_in now sender id content round r =
    fair-then r _ _ (raise_hops (suc round)) (fair-then r _ _ (forget_and_optimise id sender round) (fair-then r _ _ (lazy_push id (suc round) sender) (fair-then r _ _ (push_on id content (suc round) sender)
    (fair-then r _ _ (set_first id sender round) (seq (mark_received now id) (cache_at now id content (suc round)) r (fair-mark_received now id r) (fair-cache_at now id content (suc round) _)) (fair-set_first id sender round _))
    (fair-push_on id content (suc round) sender _)) (fair-lazy_push id (suc round) sender _)) (fair-forget_and_optimise id sender round _)) (fair-raise_hops (suc round) _)

fair-on_duplicate : (sender id : ℕ) (l : Late) (r : Run) → Fair (on_duplicate sender id l) r
unfolding on_duplicate
fair-on_duplicate sender id duplicate r = fair-prune_back sender r
fair-on_duplicate sender id repeated r = fair-refl r
fair-on_duplicate sender id (faster first) r = seq (set_kept id sender) (prune_back first) r (fair-keep id sender r) (fair-prune_back first (set_kept id sender r))

fair-on_new : (now sender id : ℕ) (content : List ℕ) (d : Delivery) (r : Run) → Fair (on_new now sender id content d) r
unfolding on_new
fair-on_new now sender id content (Swarm round) r = seq (take_in now sender id content round) (act (Emitted sender content (Swarm round))) r (fair-take_in now sender id content round r) (fair-act _ _)
fair-on_new now sender id content Neighbors r = fair-act (Emitted sender content Neighbors) r

-- control

fair-announce : (id : ℕ) (h : Hop) (r : Run) → Fair (announce id h) r
unfolding announce
fair-announce id h r = quiet r _ refl refl

fair-schedule_graft : (id : ℕ) (r : Run) → Fair (schedule_graft id) r
unfolding schedule_graft
fair-schedule_graft id r = fair-if (member id r.state.timers.graft) r _ _ _ _ (fair-refl r) (stated _ _ r)

fair-on_announced : (sender : ℕ) (h : Ihave) (r : Run) → Fair (on_announced sender h) r
unfolding on_announced
fair-on_announced sender h r =
    fair-if (holds h.id r.state.received) r _ _ _ _ (fair-refl r)
    (seq (announce h.id (record { peer = sender; round = h.round })) (schedule_graft h.id) r (fair-announce h.id (record { peer = sender; round = h.round }) r) (fair-schedule_graft h.id _))

fair-on_ihave : (sender : ℕ) (hs : List Ihave) (r : Run) → Fair (on_ihave sender hs) r
unfolding on_ihave
fair-on_ihave sender [] r = fair-refl r
fair-on_ihave sender (h ∷ hs) r = seq (on_announced sender h) (on_ihave sender hs) r (fair-on_announced sender h r) (fair-on_ihave sender hs (on_announced sender h r))

fair-reply_with : (sender id : ℕ) (o : Option Cached) (r : Run) → Fair (reply_with sender id o) r
unfolding reply_with
fair-reply_with sender id None r = fair-refl r
fair-reply_with sender id (Some c) r = fair-noting sender (Gossip id c.content (Swarm c.round)) (record { id = id; round = c.round } ∷ []) r

fair-reply : (sender : ℕ) (wanted : Option ℕ) (r : Run) → Fair (reply sender wanted) r
unfolding reply
fair-reply sender None r = fair-refl r
fair-reply sender (Some id) r = fair-reply_with sender id (get id r.state.cache) r

fair-on_graft : (sender : ℕ) (wanted : Option ℕ) (r : Run) → Fair (on_graft sender wanted) r
unfolding on_graft
fair-on_graft sender wanted r = seq (update_links (add_eager sender)) (reply sender wanted) r (fair-links_of (add_eager sender) r) (fair-reply sender wanted (update_links (add_eager sender) r))

fair-on_prune : (sender : ℕ) (r : Run) → Fair (on_prune sender) r
unfolding on_prune
fair-on_prune sender r = fair-links_of (add_lazy sender) r

fair-leave : (id : ℕ) (hs : List Hop) (r : Run) → Fair (leave_announcers id hs) r
unfolding leave_announcers
fair-leave id hs r = quiet r _ refl refl

fair-note_graft : (now id : ℕ) (h : Hop) (r : Run) → Fair (note_graft now id h) r
unfolding note_graft
fair-note_graft now id h r = quiet r _ refl refl

fair-unmark : (id : ℕ) (r : Run) → Fair (unmark id) r
unfolding unmark
fair-unmark id r = quiet r _ refl refl

fair-ask_first : (now id : ℕ) (hs : List Hop) (r : Run) → Fair (ask_first now id hs) r
unfolding ask_first
fair-ask_first now id [] r = fair-refl r
fair-ask_first now id (h ∷ hs) r =
    fair-then r _ _ (act (Scheduled r.state.settings.graft_timeout_2 (SendGraft id))) (fair-then r _ _ (send h.peer (Graft (Some id) h.round)) (fair-then r _ _ (note_graft now id h)
    (seq (leave_announcers id hs) (update_links (add_eager h.peer)) r (fair-leave id hs r) (fair-links_of (add_eager h.peer) (leave_announcers id hs r))) (fair-note_graft now id h _)) (fair-send h.peer (Graft (Some id) h.round) _)) (fair-act _ _)

fair-on_send_graft_timer : (now id : ℕ) (r : Run) → Fair (on_send_graft_timer now id) r
unfolding on_send_graft_timer
fair-on_send_graft_timer now id r =
    fair-if (holds id r.state.received) r _ _ _ _ (fair-unmark id r) (seq (unmark id) (ask_first now id (announcers id r.state)) r (fair-unmark id r) (fair-ask_first now id (announcers id r.state) (unmark id r)))

-- ticks

fair-clear_dispatch : (r : Run) → Fair clear_dispatch r
unfolding clear_dispatch
fair-clear_dispatch r = quiet r _ refl refl

fair-on_dispatch_timer : (r : Run) → Fair on_dispatch_timer r
unfolding on_dispatch_timer
fair-on_dispatch_timer r =
    fair-then r _ _ clear_dispatch
    (fair-then r (with_state _ r) (λ rooms. with_state _ (with_rooms rooms r)) (dispatch_to (queued_peers r.state.queue) (per_message r.state.settings.max_message_size) r.state.queue) (quiet r (with_state _ r) refl refl)
    (fair-dispatch_to (queued_peers r.state.queue) (per_message r.state.settings.max_message_size) r.state.queue (with_state _ r))) (fair-clear_dispatch _)

fair-dispatch_if_queued : (r : Run) → Fair dispatch_if_queued r
unfolding dispatch_if_queued
fair-dispatch_if_queued r = fair-if (is_empty r.state.queue) r _ _ _ _ (fair-refl r) (fair-schedule_dispatch r)

fair-on_announce_dropped_timer : (r : Run) → Fair on_announce_dropped_timer r
unfolding on_announce_dropped_timer
fair-on_announce_dropped_timer r =
    fair-then r _ _ schedule_announce_dropped
    (fair-then r (with_state (move_oldest (still_cached r.state) r.state) r) (λ rooms. with_state (move_oldest (still_cached r.state) r.state) (with_rooms rooms r)) dispatch_if_queued
    (quiet r (with_state (move_oldest (still_cached r.state) r.state) r) refl refl) (fair-dispatch_if_queued _)) (fair-schedule_announce _)

fair-told : (ids : List ℕ) (r : Run) → Fair (tell_forgotten ids) r
fair-told ids r = record { grows = λ p s. any_left (to_peer p) r.actions (map (λ id. Forgotten id) ids) s; out = λ P c rooms e. record { same = refl; agree = e } }

fair-on_evict_cache_timer : (now : ℕ) (r : Run) → Fair (on_evict_cache_timer now) r
unfolding on_evict_cache_timer
fair-on_evict_cache_timer now r =
    fair-then r (tell_forgotten (expired_keys now r.state.cache) r) (λ rooms. tell_forgotten (expired_keys now r.state.cache) (with_rooms rooms r))
    (λ x. act (Scheduled r.state.settings.cache_evict_interval EvictCache) (with_state (evict now r.state) x)) (fair-told (expired_keys now r.state.cache) r)
    (stated (evict now r.state) (Scheduled r.state.settings.cache_evict_interval EvictCache) (tell_forgotten (expired_keys now r.state.cache) r))

fair-first_event : (now : ℕ) (r : Run) → Fair (first_event now) r
unfolding first_event
fair-first_event now r =
    fair-if r.state.init r _ _ _ _ (fair-refl r) (fair-then r (with_state _ r) (λ rooms. with_state _ (with_rooms rooms r)) (on_evict_cache_timer now) (quiet r (with_state _ r) refl refl) (fair-on_evict_cache_timer now (with_state _ r)))

fair-on_timer : (now : ℕ) (t : Timer) (r : Run) → Fair (on_timer now t) r
unfolding on_timer
fair-on_timer now (SendGraft id) r = fair-on_send_graft_timer now id r
fair-on_timer now DispatchLazyPush r = fair-on_dispatch_timer r
fair-on_timer now EvictCache r = fair-on_evict_cache_timer now r
fair-on_timer now AnnounceDropped r = fair-on_announce_dropped_timer r

-- events

module _ (hash : List ℕ → ℕ) where
  fair-on_gossip : (now sender id : ℕ) (content : List ℕ) (d : Delivery) (r : Run) → Fair (on_gossip hash now sender id content d) r
  unfolding on_gossip on_late_graft_reply
  fair-on_gossip now sender id content d r =
      fair-if (not (eqb (hash content) id)) r _ _ _ _ (fair-refl r)
      (fair-if (holds id r.state.received) r _ _ _ _ (fair-on_duplicate sender id (late_kind sender d r.state.links (get id r.state.grafted)) r) (fair-on_new now sender id content d r))

  fair-broadcast_to : (now : ℕ) (content : List ℕ) (r : Run) → Fair (broadcast_to hash now content) r
  unfolding broadcast_to
  fair-broadcast_to now content r =
      fair-then r _ _ (eager_push (hash content) content 0 r.state.settings.me []) (fair-then r _ _ (lazy_push (hash content) 0 r.state.settings.me)
      (seq (mark_received now (hash content)) (cache_at now (hash content) content 0) r (fair-mark_received now (hash content) r) (fair-cache_at now (hash content) content 0 _)) (fair-lazy_push (hash content) 0 r.state.settings.me _))
      (fair-eager_push (hash content) content 0 r.state.settings.me [] _)

  fair-broadcast : (now : ℕ) (content : List ℕ) (r : Run) → Fair (broadcast hash now content) r
  unfolding broadcast
  fair-broadcast now content r =
      fair-if (ltb r.state.settings.max_message_size (gossip_size (length content))) r _ _ _ _ (fair-refl r) (fair-broadcast_to now content r)

  fair-on_message : (now sender : ℕ) (m : Message) (r : Run) → Fair (on_message hash now sender m) r
  unfolding on_message if_neighbour
  fair-on_message now sender (Gossip id content d) r = fair-on_gossip now sender id content d r
  fair-on_message now sender Prune r = fair-if (is_neighbour sender r.state.links) r _ _ _ _ (fair-on_prune sender r) (fair-refl r)
  fair-on_message now sender (Graft wanted round) r = fair-if (is_neighbour sender r.state.links) r _ _ _ _ (fair-on_graft sender wanted r) (fair-refl r)
  fair-on_message now sender (IHave hs) r = fair-if (is_neighbour sender r.state.links) r _ _ _ _ (fair-on_ihave sender hs r) (fair-refl r)

  -- any event, of any run
  pub fair-handle : (now : ℕ) (e : Event) (r : Run) → Fair (handle hash now e) r
  unfolding handle handle_message on_neighbor_up on_neighbor_down
  fair-handle now (Received p m) r =
      fair-then r _ _ (on_message hash now p m) (fair-then r _ _ (λ x. with_counts (count_message m x.counts) x) (fair-first_event now r) (quiet (first_event now r) (with_counts (count_message m (first_event now r).counts) (first_event now r)) refl refl)) (fair-on_message now p m _)
  fair-handle now (Broadcast content) r = seq (first_event now) (broadcast hash now content) r (fair-first_event now r) (fair-broadcast now content (first_event now r))
  fair-handle now (Fired t) r = seq (first_event now) (on_timer now t) r (fair-first_event now r) (fair-on_timer now t (first_event now r))
  fair-handle now (Up as_quiet p) r = fair-links_of (link_up as_quiet p) r
  fair-handle now (Down p) r = quiet r _ refl refl
