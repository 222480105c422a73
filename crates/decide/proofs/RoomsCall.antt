-- A call sends only to neighbours and to the event's peer; so two room lists that agree there give the same run.
use Rattle.std.proofs.Common.{ℕ, suc, ◌≡◌, refl, sym, subst, ◌∙◌, Bool, true, false, not, ◌&&◌, ◌||◌, List, [], ◌∷◌, ◌++◌, map, ltb, eqb, length, eqb-true, eq-eqb, if◌then◌else◌, Option, Some, None, is_some}
use Rattle.std.proofs.Math.Bool.{or-false}
use Rattle.storage.specs.Lists.Base.{is_empty, all, any}
use Rattle.storage.specs.Lists.Map.{keys, lookup, has}
use Rattle.time_cache.specs.TimeCache.{get, holds, expired_keys}
use Rattle.protocol.specs.Links.{Mark, Links, is_neighbour, is_eager, marked, eager_in}
use Rattle.postcard.specs.Message.{Delivery, Swarm, Neighbors, Message, Gossip, Prune, Graft, IHave, Timer, SendGraft, DispatchLazyPush, EvictCache, AnnounceDropped, Event, Received, Broadcast, Fired, Up, Down, Action, Sent, Scheduled, Emitted, Forgotten}
use Rattle.protocol.specs.State.{State, Counts, Hop, Grafts, Cached}
use Rattle.protocol.specs.Run.{Room, begin}
use Rattle.protocol.specs.Push.{eager_targets}
use Rattle.protocol.specs.Gossips.{announcers, grafted_for, graft_out, least_from, far_closer, Late, duplicate, repeated, faster, same_as, no_more_hops, late_from, late_kind, gossip_size}
use Rattle.protocol.specs.Ticks.{per_message, queued_peers, oldest, younger, still_cached}
use Rattle.protocol.specs.Handle.{handle}
use Rattle.protocol.specs.Whole.{whole}
use Rattle.protocol.specs.Consistent.{Consistent}
use Rattle.decide.specs.Rooms.{first_send, back_peers}
use Rattle.decide.specs.Settled.{settled, forgotten_actions, settled_actions}
use Rattle.decide.specs.RecordGrowth.{cached_in, announce_action, push_actions}
use Rattle.decide.specs.Pieces.{Piece, piece_taken, piece_actions}
use Rattle.decide.specs.NewIds.{new_ids, known_timer}
use Rattle.decide.specs.ActionsAfter.{evict_actions, dispatch_action, announce_actions, reply_actions, graft_actions, ask_actions, send_graft_actions, ihave_actions, broadcast_actions, late_actions, optimise_actions, new_actions, dispatch_actions, gossip_actions, message_actions, timer_actions, actions_after}
use Rattle.storage.proofs.ListsLaws.MapLaws.{cases, true≢, and_right, all_head, all_tail, all_cons}
use Rattle.storage.proofs.ListsLaws.Lists.{or_left, or_right}
use Rattle.storage.proofs.ListsLaws.ListLaws.{all_append, all-imp, all_map, all-each}
use Rattle.protocol.proofs.Consistent.{whole-consistent}
use Rattle.protocol.proofs.ConsistentTables.{queued-near}
use Rattle.protocol.proofs.WholeKept.{known-announcers, kept-first_event}
use Rattle.decide.proofs.SettledLaws.{first-state, settled-links}
use Rattle.decide.proofs.PushLaws.{targets-near}
use Rattle.decide.proofs.Dispatch.{near-pieces}
use Rattle.decide.proofs.EachEvent.{decide-actions}
use Rattle.decide.proofs.RoomsSteps.{with_rooms, to_peer, sent_to, AgreeOn, fair-handle}

-- a send goes to a peer that passes the test; an action 4 is there only if some may be
abbrev pub send_in : Bool → (ℕ → Bool) → Action → Bool
send_in b P (Sent p taken m) = P p
send_in b P (Scheduled delay t) = true
send_in b P (Emitted p content d) = true
send_in b P (Forgotten id) = b

unfoldable pub Within : Bool → (ℕ → Bool) → List Action → Type 0
Within b P xs = all (send_in b P) xs ≡ true

one_in : (b : Bool) (P : ℕ → Bool) (p : ℕ) (a : Action) → send_in b P a ≡ true → to_peer p a ≡ true → P p ≡ true
one_in b P p (Sent q taken m) h t = rw (sym (eqb-true q p t)) h
one_in b P p (Scheduled delay t) h s = true≢ s
one_in b P p (Emitted q content d) h s = true≢ s
one_in b P p (Forgotten id) h s = true≢ s

sent-in : (b : Bool) (P : ℕ → Bool) (p : ℕ) (xs : List Action) → Within b P xs → sent_to p xs ≡ true → P p ≡ true
unfolding Within any
sent-in b P p [] h s = true≢ s
sent-in b P p (a ∷ xs) h s =
    cases (to_peer p a) (λ t. one_in b P p a (all_head (send_in b P) a xs h) t) (λ t. sent-in b P p xs (all_tail (send_in b P) a xs h) (rw t at s))

module _ (b : Bool) (P : ℕ → Bool) where
  pub nil : Within b P []
  unfolding Within all
  nil = refl

  append : (xs ys : List Action) → Within b P xs → Within b P ys → Within b P (xs ++ ys)
  unfolding Within
  append xs ys h k = all_append (send_in b P) xs ys h k

  cons : (a : Action) (xs : List Action) → send_in b P a ≡ true → Within b P xs → Within b P (a ∷ xs)
  unfolding Within
  cons a xs h k = all_cons (send_in b P) a xs h k

  pub branch : (t : Bool) (xs ys : List Action) → Within b P xs → Within b P ys → Within b P (if t then xs else ys)
  branch true xs ys h k = h
  branch false xs ys h k = k

  firsts : (rooms : List Room) (m : Message) (ps : List ℕ) → all P ps ≡ true → Within b P (map (first_send rooms m) ps)
  unfolding Within first_send
  firsts rooms m ps h = all_map (send_in b P) (first_send rooms m) ps ∙ unfold first_send in h

  noting : (stands flag : Bool) → Within b P (announce_action stands flag)
  unfolding announce_action
  noting stands flag = branch (stands && not flag) _ [] (cons (Scheduled 1000 AnnounceDropped) [] refl nil) nil

  pushed : (rooms : List Room) (m : Message) (ps : List ℕ) (flag : Bool) → all P ps ≡ true → Within b P (push_actions rooms m ps flag)
  unfolding push_actions
  pushed rooms m ps flag h = append _ _ (firsts rooms m ps h) (noting (not (is_empty (back_peers rooms ps))) flag)

  telling : (now : ℕ) (s : State) → b ≡ true → Within b P (forgotten_actions now s)
  unfolding Within forgotten_actions
  telling now s h = all_map (send_in b P) (λ id. Forgotten id) (expired_keys now s.cache) ∙ all-each (λ id. b) (λ id. h) (expired_keys now s.cache)

  settling : (now : ℕ) (s : State) → b ≡ true → Within b P (settled_actions now s)
  unfolding settled_actions evict_actions
  settling now s h = branch s.init [] _ nil (append _ _ (telling now s h) (cons _ [] refl nil))

  dispatching : (s : State) → Within b P (dispatch_action s)
  unfolding dispatch_action
  dispatching s = branch s.timers.dispatch [] _ nil (cons _ [] refl nil)

  announcing : (s : State) → Within b P (announce_actions s)
  unfolding announce_actions
  announcing s = append _ _ (branch (is_empty (s.queue ++ oldest [] (still_cached s))) [] _ nil (dispatching s)) (noting (not (is_empty (younger [] (still_cached s)))) false)

  -- the announcers are within
  least-in : (best : Hop) (hs : List Hop) → P best.peer ≡ true → all (λ h. P h.peer) hs ≡ true → P (least_from best hs).peer ≡ true
  unfolding least_from
  least-in best [] b h = b
  least-in best (x ∷ hs) b h =
      cases (ltb x.round best.round) (λ t. rw t (least-in x hs (all_head (λ h. P h.peer) x hs h) (all_tail (λ h. P h.peer) x hs h)))
      (λ t. rw t (least-in best hs b (all_tail (λ h. P h.peer) x hs h)))

  optimising : (rooms : List Room) (sender round : ℕ) (hs : List Hop) (s : State) → P sender ≡ true → all (λ h. P h.peer) hs ≡ true → Within b P (optimise_actions rooms sender round hs s)
  unfolding optimise_actions first_send
  optimising rooms sender round [] s p h = nil
  optimising rooms sender round (x ∷ hs) s p h =
      branch (far_closer s.settings.optimization_threshold round (least_from x hs).round) _ []
      (branch (eager_in (least_from x hs).peer s.links) _ _ (cons _ [] p nil)
      (cons _ _ (least-in x hs (all_head (λ h. P h.peer) x hs h) (all_tail (λ h. P h.peer) x hs h)) (cons _ [] p nil))) nil

  asking : (rooms : List Room) (id : ℕ) (hs : List Hop) (s : State) → all (λ h. P h.peer) hs ≡ true → Within b P (ask_actions rooms id hs s)
  unfolding ask_actions first_send
  asking rooms id [] s h = nil
  asking rooms id (x ∷ hs) s h = cons _ _ (all_head (λ h. P h.peer) x hs h) (cons _ [] refl nil)

  scheduling : (delay : ℕ) (is : List ℕ) → Within b P (map (λ i. Scheduled delay (SendGraft i)) is)
  unfolding Within
  scheduling delay is = all_map (send_in b P) (λ i. Scheduled delay (SendGraft i)) is ∙ all-each (λ i. true) (λ i. refl) is

  dispatched : (c : ℕ → Bool) (rooms : List Room) (flag : Bool) (xs : List Piece) → all (λ x. P x.peer) xs ≡ true → Within b P (piece_actions c rooms flag xs)
  unfolding piece_actions
  dispatched c rooms flag [] h = nil
  dispatched c rooms flag (x ∷ xs) h =
      cons _ _ (all_head (λ x. P x.peer) x xs h)
      (branch (piece_taken rooms x || flag || not (any (λ h. c h.id) x.ihaves)) _ _ (dispatched c rooms flag xs (all_tail (λ x. P x.peer) x xs h))
      (cons _ _ refl (dispatched c rooms true xs (all_tail (λ x. P x.peer) x xs h))))

-- who is eager is a neighbour
eager-near : (p : ℕ) (l : Links) → eager_in p l ≡ true → is_neighbour p l ≡ true
unfolding eager_in marked
eager-near p l h = on (lookup p l) h
  where
    on : (o : Option Mark) → marked is_eager o ≡ true → is_some o ≡ true
    on None e = true≢ (unfold marked in e)
    on (Some m) e = refl

-- the first sender that goes lazy is a neighbour
abbrev late_in : (ℕ → Bool) → Late → Bool
late_in P duplicate = true
late_in P repeated = true
late_in P (faster first) = P first

late-from : (sender : ℕ) (d : Delivery) (l : Links) (g : Grafts) (o : Option Hop) → late_in (λ p. is_neighbour p l) (late_from sender d l g o) ≡ true
unfolding late_from
late-from sender d l g None = refl
late-from sender d l g (Some f) =
    cases (not (has sender g.peers)) (λ a. rw a refl)
    (λ a. cases (eqb f.peer sender || same_as sender g.kept) (λ b. rw (a, b) refl)
    (λ b. cases (no_more_hops d f.round && not (has f.peer g.peers) && eager_in sender l && eager_in f.peer l)
    (λ c. rw (a, b, c) (eager-near f.peer l (and_right (no_more_hops d f.round && not (has f.peer g.peers) && eager_in sender l) (eager_in f.peer l) c)))
    (λ c. rw (a, b, c) refl)))

late-kind : (sender : ℕ) (d : Delivery) (l : Links) (o : Option Grafts) → late_in (λ p. is_neighbour p l) (late_kind sender d l o) ≡ true
unfolding late_kind
late-kind sender d l None = refl
late-kind sender d l (Some g) = late-from sender d l g g.first

-- the event's peer
abbrev pub event_peer : Event → ℕ → Bool
event_peer (Received p m) q = eqb q p
event_peer (Broadcast content) q = false
event_peer (Fired t) q = false
event_peer (Up as_quiet p) q = false
event_peer (Down p) q = false

-- a neighbour, or the event's peer
abbrev pub reached : State → Event → ℕ → Bool
reached s e q = is_neighbour q s.links || event_peer e q

abbrev pub near : State → ℕ → ℕ → Bool
near s p q = is_neighbour q s.links || eqb q p

or-all : (f g : ℕ → Bool) (ps : List ℕ) → all f ps ≡ true → all (λ p. f p || g p) ps ≡ true
or-all f g ps h = all-imp f (λ p. f p || g p) (λ p k. or_left (f p) (g p) k) ps h

lated : (b : Bool) (P : ℕ → Bool) (rooms : List Room) (sender : ℕ) (l : Late) → P sender ≡ true → late_in P l ≡ true → Within b P (late_actions rooms sender l)
unfolding late_actions first_send
lated b P rooms sender duplicate p h = cons b P _ [] p (nil b P)
lated b P rooms sender repeated p h = nil b P
lated b P rooms sender (faster first) p h = cons b P _ [] h (nil b P)

late-wider : (f g : ℕ → Bool) (l : Late) → late_in f l ≡ true → late_in (λ q. f q || g q) l ≡ true
late-wider f g duplicate h = refl
late-wider f g repeated h = refl
late-wider f g (faster first) h = or_left (f first) (g first) h

all_one : (P : ℕ → Bool) (p : ℕ) → P p ≡ true → all P (p ∷ []) ≡ true
unfolding all
all_one P p h = rw h refl

-- a neighbour alone
abbrev pub alone : State → ℕ → Bool
alone s q = is_neighbour q s.links || false

alone-all : (s : State) (ps : List ℕ) → all (λ q. is_neighbour q s.links) ps ≡ true → all (alone s) ps ≡ true
alone-all s ps h = all-imp (λ q. is_neighbour q s.links) (alone s) (λ q k. or-false (is_neighbour q s.links) ∙ k) ps h

module _ (b : Bool) (hash : List ℕ → ℕ) (rooms : List Room) (s : State) (x : Consistent s) where
  known_in : (g : ℕ → Bool) (id : ℕ) → all (λ h. is_neighbour h.peer s.links || g h.peer) (announcers id s) ≡ true
  known_in g id = all-imp (λ h. is_neighbour h.peer s.links) (λ h. is_neighbour h.peer s.links || g h.peer) (λ h k. or_left (is_neighbour h.peer s.links) (g h.peer) k) (announcers id s) (known-announcers id s x).near

  self-near : (sender : ℕ) → (is_neighbour sender s.links || eqb sender sender) ≡ true
  self-near sender = or_right (is_neighbour sender s.links) (eqb sender sender) (eq-eqb sender sender refl)

  reply-in : (sender id : ℕ) (o : Option Cached) → Within b (near s sender) (reply_actions rooms sender id o s)
  unfolding reply_actions
  reply-in sender id None = nil b (near s sender)
  reply-in sender id (Some c) = pushed b (near s sender) rooms _ (sender ∷ []) s.timers.announce (all_one (near s sender) sender (self-near sender))

  graft-in : (sender : ℕ) (wanted : Option ℕ) → Within b (near s sender) (graft_actions rooms sender wanted s)
  unfolding graft_actions
  graft-in sender None = nil b (near s sender)
  graft-in sender (Some id) = reply-in sender id (get id s.cache)

  -- a message, of the settled state
  pub message-in : (sender : ℕ) (m : Message) → Within b (near s sender) (message_actions hash rooms sender m s)
  unfolding message_actions gossip_actions new_actions
  message-in sender (Gossip id content (Swarm round)) =
      branch b P (not (eqb (hash content) id)) [] _ (nil b P)
      (branch b P (holds id s.received) _ _ (lated b P rooms sender (late_kind sender (Swarm round) s.links (get id s.grafted)) self (late-wider (λ q. is_neighbour q s.links) (λ q. eqb q sender) (late_kind sender (Swarm round) s.links (get id s.grafted)) (late-kind sender (Swarm round) s.links (get id s.grafted))))
      (append b P _ _ (append b P _ _ (append b P _ _ (pushed b P rooms _ _ _ (or-all (λ q. is_neighbour q s.links) (λ q. eqb q sender) (eager_targets sender (keys (grafted_for id s)) s) (targets-near sender (keys (grafted_for id s)) s))) (dispatching b P s))
      (branch b P (is_neighbour sender s.links && not (graft_out sender round (grafted_for id s))) _ [] (optimising b P rooms sender (suc round) (announcers id s) s self (known_in (λ q. eqb q sender) id)) (nil b P)))
      (cons b P _ [] refl (nil b P))))
    where
      P : ℕ → Bool
      P q = is_neighbour q s.links || eqb q sender

      self : (is_neighbour sender s.links || eqb sender sender) ≡ true
      self = or_right (is_neighbour sender s.links) (eqb sender sender) (eq-eqb sender sender refl)
  message-in sender (Gossip id content Neighbors) =
      branch b (near s sender) (not (eqb (hash content) id)) [] _ (nil b (near s sender))
      (branch b (near s sender) (holds id s.received) _ _ (lated b (near s sender) rooms sender (late_kind sender Neighbors s.links (get id s.grafted)) (self-near sender) (late-wider (λ q. is_neighbour q s.links) (λ q. eqb q sender) (late_kind sender Neighbors s.links (get id s.grafted)) (late-kind sender Neighbors s.links (get id s.grafted))))
      (cons b (near s sender) _ [] refl (nil b (near s sender))))
  message-in sender Prune = nil b (near s sender)
  message-in sender (Graft wanted round) = branch b (near s sender) (is_neighbour sender s.links) _ [] (graft-in sender wanted) (nil b (near s sender))
  message-in sender (IHave hs) = unfold ihave_actions in (branch b (near s sender) (is_neighbour sender s.links) _ [] (scheduling b (near s sender) s.settings.graft_timeout_1 (new_ids (known_timer s) [] hs)) (nil b (near s sender)))

  pub send_graft-in : (now id : ℕ) → Within b (alone s) (timer_actions hash rooms now (SendGraft id) s)
  unfolding timer_actions send_graft_actions
  send_graft-in now id = branch b (alone s) (holds id s.received) [] _ (nil b (alone s)) (asking b (alone s) rooms id (announcers id s) s (known_in (λ q. false) id))

  pub dispatch-in : (now : ℕ) → Within b (alone s) (timer_actions hash rooms now DispatchLazyPush s)
  unfolding timer_actions dispatch_actions
  dispatch-in now =
      dispatched b (alone s) (cached_in s.cache) rooms s.timers.announce _ (all-imp (λ y. is_neighbour y.peer s.links) (λ y. alone s y.peer) (λ y k. or-false (is_neighbour y.peer s.links) ∙ k) _
      (near-pieces s.links (queued_peers s.queue) (per_message s.settings.max_message_size) s.queue (queued-near s.links s.queue x.core.queued)))

  pub announce-in : (now : ℕ) → Within b (alone s) (timer_actions hash rooms now AnnounceDropped s)
  unfolding timer_actions
  announce-in now = announcing b (alone s) s

  timer-in : b ≡ true → (now : ℕ) (t : Timer) → Within b (alone s) (timer_actions hash rooms now t s)
  unfolding timer_actions evict_actions
  timer-in h now (SendGraft id) = send_graft-in now id
  timer-in h now DispatchLazyPush = dispatch-in now
  timer-in h now EvictCache = append b (alone s) _ _ (telling b (alone s) now s h) (cons b (alone s) _ [] refl (nil b (alone s)))
  timer-in h now AnnounceDropped = announce-in now

  pub broadcast-in : (id : ℕ) (content : List ℕ) → Within b (alone s) (broadcast_actions rooms id content s)
  unfolding broadcast_actions
  broadcast-in id content =
      append b (alone s) _ _ (dispatching b (alone s) s) (pushed b (alone s) rooms _ _ _ (alone-all s (eager_targets s.settings.me [] s) (targets-near s.settings.me [] s)))

on-links : (b : Bool) (g : ℕ → Bool) (xs : List Action) (l l' : Links) → l ≡ l' → Within b (λ q. is_neighbour q l || g q) xs → Within b (λ q. is_neighbour q l' || g q) xs
on-links b g xs l l' e h = subst (λ (m : Links). Within b (λ q. is_neighbour q m || g q) xs) e h

pub settled-consistent : (now : ℕ) (s : State) (c : Counts) → Consistent s → Consistent (settled now s)
settled-consistent now s c x = rw (first-state now (begin s c []) x.core) at ((kept-first_event now (begin s c [])).consistent x)

module _ (hash : List ℕ → ℕ) where
  calls-in : (rooms : List Room) (now : ℕ) (e : Event) (s : State) (c : Counts) → Consistent s → Within true (reached s e) (actions_after hash rooms now e s)
  unfolding actions_after
  calls-in rooms now (Received p m) s c x =
      append true (near s p) _ _ (settling true (near s p) now s refl) (on-links true (λ q. eqb q p) (message_actions hash rooms p m (settled now s)) (settled now s).links s.links (settled-links now s) (message-in true hash rooms (settled now s) (settled-consistent now s c x) p m))
  calls-in rooms now (Broadcast content) s c x =
      append true (alone s) _ _ (settling true (alone s) now s refl)
      (branch true (alone s) (ltb s.settings.max_message_size (gossip_size (length content))) [] _ (nil true (alone s)) (on-links true (λ q. false) (broadcast_actions rooms (hash content) content (settled now s)) (settled now s).links s.links (settled-links now s) (broadcast-in true hash rooms (settled now s) (settled-consistent now s c x) (hash content) content)))
  calls-in rooms now (Fired t) s c x =
      append true (alone s) _ _ (settling true (alone s) now s refl) (on-links true (λ q. false) (timer_actions hash rooms now t (settled now s)) (settled now s).links s.links (settled-links now s) (timer-in true hash rooms (settled now s) (settled-consistent now s c x) refl now t))
  calls-in rooms now (Up as_quiet p) s c x = nil true (reached s (Up as_quiet p))
  calls-in rooms now (Down p) s c x = nil true (reached s (Down p))

  -- a call sends only to neighbours and to the event's peer
  pub sends-near : (rooms : List Room) (now : ℕ) (e : Event) (s : State) (c : Counts) → whole s ≡ true → (p : ℕ) → sent_to p (handle hash now e (begin s c rooms)).actions ≡ true → reached s e p ≡ true
  sends-near rooms now e s c w p h =
      sent-in true (reached s e) p (actions_after hash rooms now e s) (calls-in rooms now e s c (whole-consistent s w)) (rw (decide-actions hash now e s c rooms w) at h)

  -- two room lists that agree at the neighbours and at the event's peer give the same run, but for the rooms left
  pub same-run : (now : ℕ) (e : Event) (s : State) (c : Counts) (rooms rooms' : List Room) → whole s ≡ true → AgreeOn (reached s e) rooms' rooms →
      handle hash now e (begin s c rooms') ≡ with_rooms (handle hash now e (begin s c rooms')).rooms (handle hash now e (begin s c rooms))
  same-run now e s c rooms rooms' w a = ((fair-handle hash now e (begin s c rooms)).out (reached s e) (sends-near rooms now e s c w) rooms' a).same
