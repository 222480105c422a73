-- Steps that send no payload and announce nothing, and leave the queue as it is.
-- Assumes nothing.
use Rattle.std.proofs.Common.{ℕ, suc, ◌≡◌, refl, ap, ◌∙◌, Bool, true, false, not, ◌&&◌, ◌||◌, List, [], ◌∷◌, ◌++◌, append-nil, map, eqb, Option, Some, None}
use Rattle.std.proofs.Math.Bool.{or-false}
use Rattle.storage.proofs.ListsLaws.Lists.{any_append}
use Rattle.storage.specs.Lists.Base.{is_empty, any, member}
use Rattle.storage.proofs.ListsLaws.MapLaws.{cases}
use Rattle.time_cache.specs.TimeCache.{holds}
use Rattle.postcard.specs.Message.{Delivery, Ihave, Message, Prune, Graft, Timer, SendGraft, Action, Sent, Scheduled, Emitted, Forgotten}
use Rattle.protocol.specs.Links.{Links, is_neighbour, eager_in, add_eager, add_lazy}
use Rattle.protocol.specs.State.{State, Hop, Grafts, with_init}
use Rattle.protocol.specs.Run.{Run, with_state, act, send}
use Rattle.protocol.specs.Push.{notes, schedule_dispatch, schedule_announce_dropped, record_full, record_also, note_one, note_each, note_dropped, note_for_each}
use Rattle.protocol.specs.Gossips.{mark_received, cache_at, announcers, grafted_for, with_first, set_first, graft_out, forget_missing, raise_hops, least_from, far_closer, update_links, graft_unless_eager, prune_back, optimize_tree, forget_and_optimise, Late, duplicate, repeated, faster, with_kept, set_kept, on_duplicate}
use Rattle.protocol.specs.Control.{announce, schedule_graft, on_announced, on_ihave, on_prune, note_graft, leave_announcers, ask_first, unmark, on_send_graft_timer}
use Rattle.protocol.specs.Ticks.{evict, tell_forgotten, on_evict_cache_timer}
use Rattle.protocol.specs.Handle.{first_event}
use Rattle.protocol.specs.NoNeighbourPassedOver.{sends, taken_or_handed_back}
use Rattle.protocol.specs.ReadingsFollowTheTree.{is_payload, payloads_to, announcement_of}
use Rattle.protocol.proofs.Walk.{walk-if}
use Rattle.protocol.proofs.EmitSteps.{any-skip}

-- a send to the peer that announces it
abbrev pub announcing : ℕ → ℕ → Action → Bool
announcing p id = sends p (announcement_of id) taken_or_handed_back

pub payloads-append : (p : ℕ) (xs ys : List Action) → payloads_to p (xs ++ ys) ≡ payloads_to p xs ++ payloads_to p ys
unfolding payloads_to
payloads-append p [] ys = refl
payloads-append p (Sent q taken m ∷ xs) ys =
    cases (eqb q p && is_payload m) (λ h. rw h (ap (λ (l : List Message). m ∷ l) (payloads-append p xs ys))) (λ h. rw h (payloads-append p xs ys))
payloads-append p (Scheduled delay t ∷ xs) ys = payloads-append p xs ys
payloads-append p (Emitted q content d ∷ xs) ys = payloads-append p xs ys
payloads-append p (Forgotten id ∷ xs) ys = payloads-append p xs ys

pub payloads-skip : (p : ℕ) (xs : List Action) (a : Action) → payloads_to p (a ∷ []) ≡ [] → payloads_to p (xs ++ (a ∷ [])) ≡ payloads_to p xs
payloads-skip p xs a h = payloads-append p xs (a ∷ []) ∙ rw h (append-nil (payloads_to p xs))

pub record Plain (r r' : Run) : Type 0 where
  pub payloads : (p : ℕ) → payloads_to p r'.actions ≡ payloads_to p r.actions
  pub announced : (p id : ℕ) → any (announcing p id) r'.actions ≡ any (announcing p id) r.actions
  pub queue : r'.state.queue ≡ r.state.queue

pub plain-refl : (r : Run) → Plain r r
plain-refl r = record { payloads = λ p. refl; announced = λ p id. refl; queue = refl }

pub plain-trans : (a b c : Run) → Plain a b → Plain b c → Plain a c
plain-trans a b c x y = record { payloads = λ p. y.payloads p ∙ x.payloads p; announced = λ p id. y.announced p id ∙ x.announced p id; queue = y.queue ∙ x.queue }

infixr 4 ◌⨾◌
pub ◌⨾◌ : {a b c : Run} → Plain a b → Plain b c → Plain a c
k ⨾ l = plain-trans _ _ _ k l

-- a step of the state alone
pub plain-state : (r : Run) (s : State) → s.queue ≡ r.state.queue → Plain r (with_state s r)
plain-state r s h = record { payloads = λ p. refl; announced = λ p id. refl; queue = h }

pub plain-schedule : (delay : ℕ) (t : Timer) (r : Run) → Plain r (act (Scheduled delay t) r)
unfolding act sends payloads_to
plain-schedule delay t r = record { payloads = λ p. payloads-skip p r.actions (Scheduled delay t) refl; announced = λ p id. any-skip (announcing p id) r.actions (Scheduled delay t) refl; queue = refl }

pub plain-emit : (q : ℕ) (content : List ℕ) (d : Delivery) (r : Run) → Plain r (act (Emitted q content d) r)
unfolding act sends payloads_to
plain-emit q content d r = record { payloads = λ p. payloads-skip p r.actions (Emitted q content d) refl; announced = λ p id. any-skip (announcing p id) r.actions (Emitted q content d) refl; queue = refl }

-- neither payload nor announcement
pub record Control (m : Message) : Type 0 where
  pub no_payload : is_payload m ≡ false
  pub announces_none : (id : ℕ) → announcement_of id m ≡ false

control-prune : Control Prune
unfolding is_payload announcement_of
control-prune = record { no_payload = refl; announces_none = λ id. refl }

control-graft : (wanted : Option ℕ) (round : ℕ) → Control (Graft wanted round)
unfolding is_payload announcement_of
control-graft wanted round = record { no_payload = refl; announces_none = λ id. refl }

and-none : (b : Bool) → (b && false) ≡ false
and-none true = refl
and-none false = refl

pub plain-send : (q : ℕ) (m : Message) (r : Run) → Control m → Plain r (send q m r)
unfolding send sends payloads_to
plain-send q m r k = record {
  payloads = λ p. payloads-skip p r.actions _ (rw (k.no_payload, and-none (eqb q p)) refl);
  announced = λ p id. any-skip (announcing p id) r.actions _ (rw (k.announces_none id, and-none (eqb q p)) refl);
  queue = refl;
}

pub plain-schedule_announce : (r : Run) → Plain r (schedule_announce_dropped r)
unfolding schedule_announce_dropped
plain-schedule_announce r = walk-if Plain (is_empty r.state.dropped || r.state.timers.announce) (plain-refl r) (plain-state r _ refl ⨾ plain-schedule _ _ _)

plain-note_one : (q : ℕ) (h : Ihave) (r : Run) → Plain r (note_one q h r)
unfolding note_one record_also
plain-note_one q h r =
    walk-if Plain (not (record_full q r.state.dropped) && holds h.id r.state.cache && not (any (notes q h.id) r.state.dropped)) (plain-state r _ refl) (plain-refl r)

plain-note_each : (q : ℕ) (hs : List Ihave) (r : Run) → Plain r (note_each q hs r)
unfolding note_each
plain-note_each q [] r = plain-refl r
plain-note_each q (h ∷ hs) r = plain-note_one q h r ⨾ plain-note_each q hs (note_one q h r)

pub plain-note_dropped : (q : ℕ) (hs : List Ihave) (r : Run) → Plain r (note_dropped q hs r)
unfolding note_dropped
plain-note_dropped q hs r = walk-if Plain (is_neighbour q r.state.links) (plain-note_each q hs r ⨾ plain-schedule_announce _) (plain-refl r)

pub plain-note_for_each : (ps : List ℕ) (h : Ihave) (r : Run) → Plain r (note_for_each ps h r)
unfolding note_for_each
plain-note_for_each [] h r = plain-refl r
plain-note_for_each (p ∷ ps) h r = plain-note_dropped p (h ∷ []) r ⨾ plain-note_for_each ps h (note_dropped p (h ∷ []) r)

pub plain-schedule_dispatch : (r : Run) → Plain r (schedule_dispatch r)
unfolding schedule_dispatch
plain-schedule_dispatch r = walk-if Plain r.state.timers.dispatch (plain-refl r) (plain-state r _ refl ⨾ plain-schedule _ _ _)

pub plain-links : (f : Links → Links) (r : Run) → Plain r (update_links f r)
unfolding update_links
plain-links f r = plain-state r _ refl

-- gossip

pub plain-received : (now id : ℕ) (r : Run) → Plain r (mark_received now id r)
unfolding mark_received
plain-received now id r = plain-state r _ refl

pub plain-cache_at : (now id : ℕ) (content : List ℕ) (round : ℕ) (r : Run) → Plain r (cache_at now id content round r)
unfolding cache_at
plain-cache_at now id content round r = plain-state r _ refl

first-queue : (id : ℕ) (h : Hop) (o : Option Grafts) (s : State) → (with_first id h o s).queue ≡ s.queue
unfolding with_first
first-queue id h None s = refl
first-queue id h (Some g) s = refl

pub plain-set_first : (id sender round : ℕ) (r : Run) → Plain r (set_first id sender round r)
unfolding set_first
plain-set_first id sender round r = plain-state r _ (first-queue id _ _ r.state)

kept-queue : (id q : ℕ) (o : Option Grafts) (s : State) → (with_kept id q o s).queue ≡ s.queue
unfolding with_kept
kept-queue id q None s = refl
kept-queue id q (Some g) s = refl

plain-set_kept : (id q : ℕ) (r : Run) → Plain r (set_kept id q r)
unfolding set_kept
plain-set_kept id q r = plain-state r _ (kept-queue id q _ r.state)

plain-forget_missing : (id : ℕ) (r : Run) → Plain r (forget_missing id r)
unfolding forget_missing
plain-forget_missing id r = plain-state r _ refl

plain-prune_back : (q : ℕ) (r : Run) → Plain r (prune_back q r)
unfolding prune_back
plain-prune_back q r = plain-links (add_lazy q) r ⨾ plain-send q Prune _ control-prune

plain-graft_unless_eager : (h : Hop) (r : Run) → Plain r (graft_unless_eager h r)
unfolding graft_unless_eager
plain-graft_unless_eager h r =
    walk-if Plain (eager_in h.peer r.state.links) (plain-refl r) (plain-links (add_eager h.peer) r ⨾ plain-send h.peer (Graft None h.round) _ (control-graft None h.round))

plain-optimize_tree : (sender round : ℕ) (hs : List Hop) (r : Run) → Plain r (optimize_tree sender round hs r)
unfolding optimize_tree
plain-optimize_tree sender round [] r = plain-refl r
plain-optimize_tree sender round (h ∷ hs) r =
    walk-if Plain (far_closer r.state.settings.optimization_threshold round (least_from h hs).round)
    (plain-graft_unless_eager (least_from h hs) r ⨾ plain-prune_back sender _) (plain-refl r)

-- what follows the two pushes of a message received
pub plain-settle : (id sender round : ℕ) (r : Run) → Plain r (raise_hops (suc round) (forget_and_optimise id sender round r))
unfolding raise_hops forget_and_optimise
plain-settle id sender round r =
    walk-if Plain (is_neighbour sender r.state.links && not (graft_out sender round (grafted_for id r.state)))
    (plain-forget_missing id r ⨾ plain-optimize_tree sender (suc round) (announcers id r.state) _) (plain-forget_missing id r)
    ⨾ counted (forget_and_optimise id sender round r)
  where
    counted : (r : Run) → Plain r (raise_hops (suc round) r)
    counted r = record { payloads = λ p. refl; announced = λ p id. refl; queue = refl }

pub plain-on_duplicate : (sender id : ℕ) (l : Late) (r : Run) → Plain r (on_duplicate sender id l r)
unfolding on_duplicate
plain-on_duplicate sender id duplicate r = plain-prune_back sender r
plain-on_duplicate sender id repeated r = plain-refl r
plain-on_duplicate sender id (faster first) r = plain-set_kept id sender r ⨾ plain-prune_back first _

-- control

plain-schedule_graft : (id : ℕ) (r : Run) → Plain r (schedule_graft id r)
unfolding schedule_graft
plain-schedule_graft id r = walk-if Plain (member id r.state.timers.graft) (plain-refl r) (plain-state r _ refl ⨾ plain-schedule _ _ _)

plain-announce : (id : ℕ) (h : Hop) (r : Run) → Plain r (announce id h r)
unfolding announce
plain-announce id h r = plain-state r _ refl

pub plain-on_ihave : (sender : ℕ) (hs : List Ihave) (r : Run) → Plain r (on_ihave sender hs r)
unfolding on_ihave on_announced
plain-on_ihave sender [] r = plain-refl r
plain-on_ihave sender (h ∷ hs) r =
    walk-if Plain (holds h.id r.state.received) (plain-refl r) (plain-announce h.id _ r ⨾ plain-schedule_graft h.id _) ⨾ plain-on_ihave sender hs _

pub plain-on_prune : (sender : ℕ) (r : Run) → Plain r (on_prune sender r)
unfolding on_prune
plain-on_prune sender r = plain-links (add_lazy sender) r

plain-unmark : (id : ℕ) (r : Run) → Plain r (unmark id r)
unfolding unmark
plain-unmark id r = plain-state r _ refl

plain-leave : (id : ℕ) (hs : List Hop) (r : Run) → Plain r (leave_announcers id hs r)
unfolding leave_announcers
plain-leave id hs r = plain-state r _ refl

plain-note_graft : (now id : ℕ) (h : Hop) (r : Run) → Plain r (note_graft now id h r)
unfolding note_graft
plain-note_graft now id h r = plain-state r _ refl

pub plain-on_send_graft_timer : (now id : ℕ) (r : Run) → Plain r (on_send_graft_timer now id r)
unfolding on_send_graft_timer ask_first
plain-on_send_graft_timer now id r =
    walk-if Plain (holds id r.state.received) (plain-unmark id r) (plain-unmark id r ⨾ asks (announcers id r.state) (unmark id r))
  where
    asks : (hs : List Hop) (r : Run) → Plain r (ask_first now id hs r)
    asks [] r = plain-refl r
    asks (h ∷ hs) r =
        plain-leave id hs r ⨾ plain-links (add_eager h.peer) _ ⨾ plain-note_graft now id h _ ⨾ plain-send h.peer _ _ (control-graft (Some id) h.round)
        ⨾ plain-schedule r.state.settings.graft_timeout_2 (SendGraft id) _

-- ticks

-- telling what left the message cache
payloads-forgotten : (p : ℕ) (ids : List ℕ) → payloads_to p (map (λ id. Forgotten id) ids) ≡ []
unfolding payloads_to
payloads-forgotten p [] = refl
payloads-forgotten p (id ∷ ids) = payloads-forgotten p ids

announced-forgotten : (p j : ℕ) (ids : List ℕ) → any (announcing p j) (map (λ id. Forgotten id) ids) ≡ false
unfolding any sends
announced-forgotten p j [] = refl
announced-forgotten p j (id ∷ ids) = announced-forgotten p j ids

plain-tell : (ids : List ℕ) (r : Run) → Plain r (tell_forgotten ids r)
plain-tell ids r = record {
  payloads = λ p. payloads-append p r.actions _ ∙ rw (payloads-forgotten p ids) (append-nil (payloads_to p r.actions));
  announced = λ p j. any_append (announcing p j) r.actions _ ∙ rw (announced-forgotten p j ids) (or-false (any (announcing p j) r.actions));
  queue = refl;
}

pub plain-evict : (now : ℕ) (r : Run) → Plain r (on_evict_cache_timer now r)
unfolding on_evict_cache_timer evict
plain-evict now r = plain-tell _ r ⨾ plain-state _ _ refl ⨾ plain-schedule _ _ _

-- a first event's work
pub record Begins (r r' : Run) : Type 0 where
  pub plain : Plain r r'
  pub links : r'.state.links ≡ r.state.links
  pub settings : r'.state.settings ≡ r.state.settings
  pub dropped : r'.state.dropped ≡ r.state.dropped

pub begins : (now : ℕ) (r : Run) → Begins r (first_event now r)
unfolding first_event on_evict_cache_timer evict act
begins now r =
    walk-if Begins r.state.init (record { plain = plain-refl r; links = refl; settings = refl; dropped = refl })
    (record { plain = plain-state r _ refl ⨾ plain-evict now (with_state (with_init true r.state) r); links = refl; settings = refl; dropped = refl })
