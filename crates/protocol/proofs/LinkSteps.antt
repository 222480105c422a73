-- The guarantee, first sentence: no step but "up" and "down" changes who is a neighbour.
use Rattle.std.proofs.Common.{Option, Some, None, is_some, ℕ, ◌≡◌, refl, sym, ap, ◌∙◌, Bool, true, false, not, ◌&&◌, List, [], eqb, eqb-true}
use Rattle.storage.specs.Lists.Base.{ascending, is_empty, member}
use Rattle.storage.specs.Lists.Map.{insert, keys}
use Rattle.protocol.specs.Links.{Mark, eager, lazy, Links, is_neighbour, is_quiet, marked, quiet_in, mark_if_there, add_eager, add_lazy}
use Rattle.postcard.specs.Message.{Delivery, Message, Gossip, Prune, Graft, IHave, Timer, SendGraft, DispatchLazyPush, EvictCache, AnnounceDropped, Emitted}
use Rattle.protocol.specs.State.{State, Hop, Grafts, with_queue}
use Rattle.protocol.specs.Run.{Run, with_state, act, send}
use Rattle.protocol.specs.Push.{schedule_dispatch, lazy_push}
use Rattle.protocol.specs.Gossips.{mark_received, cache_at, with_first, set_first, forget_missing, update_links, with_kept, set_kept, broadcast}
use Rattle.protocol.specs.Control.{announce, schedule_graft, note_graft, leave_announcers, unmark}
use Rattle.protocol.specs.Ticks.{clear_dispatch, on_dispatch_timer, move_oldest, still_cached, dispatch_if_queued, on_announce_dropped_timer, evict, on_evict_cache_timer}
use Rattle.protocol.specs.Handle.{first_event, if_neighbour, on_timer, on_message, handle_message}
use Rattle.storage.proofs.ListsLaws.MapLaws.{cases, true≢, and_left, and_right, lookup-insert-same, lookup-insert-other, ascending-insert}
use Rattle.protocol.proofs.Walk.{Sending, Steps, walk-if, walk-dispatch_to, walk-first_event, walk-on_gossip, walk-broadcast, walk-on_prune, walk-on_graft, walk-on_ihave, walk-on_send_graft_timer}
use Rattle.protocol.proofs.RecordOnly.{only-note_dropped, only-schedule}

-- who is a neighbour stays the same, and who is quiet
pub record Keeps (r r' : Run) : Type 0 where
  pub same : (q : ℕ) → is_neighbour q r'.state.links ≡ is_neighbour q r.state.links
  pub quiets : (q : ℕ) → quiet_in q r'.state.links ≡ quiet_in q r.state.links
  pub ordered : ascending (keys r.state.links) ≡ true → ascending (keys r'.state.links) ≡ true

keeps-refl : (r : Run) → Keeps r r
keeps-refl r = record { same = λ q. refl; quiets = λ q. refl; ordered = λ h. h }

keeps-trans : (a b c : Run) → Keeps a b → Keeps b c → Keeps a c
keeps-trans a b c k l = record { same = λ q. l.same q ∙ k.same q; quiets = λ q. l.quiets q ∙ k.quiets q; ordered = λ h. l.ordered (k.ordered h) }

infixr 4 ◌⨾◌
pub ◌⨾◌ : {a b c : Run} → Keeps a b → Keeps b c → Keeps a c
k ⨾ l = keeps-trans _ _ _ k l

-- the table does not change
still : {r r' : Run} → r'.state.links ≡ r.state.links → Keeps r r'
still e = record { same = λ q. ap (λ (l : Links). is_neighbour q l) e; quiets = λ q. ap (λ (l : Links). quiet_in q l) e; ordered = λ h. rw e h }

-- the marks

has-insert : (q p : ℕ) (m : Mark) (l : Links) → is_neighbour p l ≡ true → is_neighbour q (insert p m l) ≡ is_neighbour q l
has-insert q p m l h =
    cases (eqb q p)
    (λ e. rw (eqb-true q p e) (ap is_some (lookup-insert-same p m l) ∙ sym h))
    (λ e. ap is_some (lookup-insert-other q p m l e))

pub has-mark : (q p : ℕ) (m : Mark) (l : Links) → is_neighbour q (mark_if_there p m l) ≡ is_neighbour q l
unfolding mark_if_there
has-mark q p m l = cases (is_neighbour p l && not (quiet_in p l)) (λ h. rw h (has-insert q p m l (and_left (is_neighbour p l) _ h))) (λ h. rw h)

ascending-mark : (p : ℕ) (m : Mark) (l : Links) → ascending (keys l) ≡ true → ascending (keys (mark_if_there p m l)) ≡ true
unfolding mark_if_there
ascending-mark p m l h = cases (is_neighbour p l && not (quiet_in p l)) (λ p'. rw p' (ascending-insert p m l h)) (λ p'. rw p' h)

-- another mark, eager or lazy: who is quiet stays so
quiet-insert : (q p : ℕ) (m : Mark) (l : Links) → is_quiet m ≡ false → quiet_in p l ≡ false → quiet_in q (insert p m l) ≡ quiet_in q l
unfolding quiet_in marked
quiet-insert q p m l z n =
    cases (eqb q p) (λ e. rw (eqb-true q p e) (ap (marked is_quiet) (lookup-insert-same p m l) ∙ z ∙ sym n)) (λ e. ap (marked is_quiet) (lookup-insert-other q p m l e))

quiet-mark : (q p : ℕ) (m : Mark) (l : Links) → is_quiet m ≡ false → quiet_in q (mark_if_there p m l) ≡ quiet_in q l
unfolding mark_if_there
quiet-mark q p m l z =
    cases (is_neighbour p l && not (quiet_in p l)) (λ h. rw h (quiet-insert q p m l z (no (quiet_in p l) (and_right (is_neighbour p l) (not (quiet_in p l)) h)))) (λ h. rw h refl)
  where
    no : (b : Bool) → not b ≡ true → b ≡ false
    no true h = true≢ h
    no false h = refl

keeps-eager : (p : ℕ) (r : Run) → Keeps r (update_links (add_eager p) r)
unfolding update_links add_eager
keeps-eager p r = record { same = λ q. has-mark q p eager r.state.links; quiets = λ q. quiet-mark q p eager r.state.links refl; ordered = λ h. ascending-mark p eager r.state.links h }

keeps-lazy : (p : ℕ) (r : Run) → Keeps r (update_links (add_lazy p) r)
unfolding update_links add_lazy
keeps-lazy p r = record { same = λ q. has-mark q p lazy r.state.links; quiets = λ q. quiet-mark q p lazy r.state.links refl; ordered = λ h. ascending-mark p lazy r.state.links h }

-- the other steps

with_first-links : (id : ℕ) (h : Hop) (o : Option Grafts) (s : State) → (with_first id h o s).links ≡ s.links
unfolding with_first
with_first-links id h None s = refl
with_first-links id h (Some g) s = refl

with_kept-links : (id p : ℕ) (o : Option Grafts) (s : State) → (with_kept id p o s).links ≡ s.links
unfolding with_kept
with_kept-links id p None s = refl
with_kept-links id p (Some g) s = refl

keeps-schedule_dispatch : (r : Run) → Keeps r (schedule_dispatch r)
unfolding schedule_dispatch act
keeps-schedule_dispatch r = walk-if Keeps r.state.timers.dispatch (keeps-refl r) (still refl)

keeps-lazy_push : (id round sender : ℕ) (r : Run) → Keeps r (lazy_push id round sender r)
unfolding lazy_push
keeps-lazy_push id round sender r = let k : Keeps r _ = still refl in k ⨾ keeps-schedule_dispatch _

keeps-schedule_graft : (id : ℕ) (r : Run) → Keeps r (schedule_graft id r)
unfolding schedule_graft act
keeps-schedule_graft id r = walk-if Keeps (member id r.state.timers.graft) (keeps-refl r) (still refl)

keeps-evict : (now : ℕ) (r : Run) → Keeps r (on_evict_cache_timer now r)
unfolding on_evict_cache_timer evict act
keeps-evict now r = still refl

keeps-sending : Sending Keeps
unfolding send
keeps-sending = record { stays = keeps-refl; follows = keeps-trans; sends = λ p m r. still refl; notes = λ p hs r. still (only-note_dropped p hs r).links }

keeps-steps : Steps Keeps
unfolding act mark_received set_first set_kept forget_missing unmark
keeps-steps = record {
  sending = keeps-sending;
  schedules = λ d t r. still refl;
  queues = keeps-lazy_push;
  marks_eager = keeps-eager;
  marks_lazy = keeps-lazy;
  receives = λ now id r. still refl;
  sets_first = λ id sender round r. still (with_first-links id _ _ r.state);
  keeps = λ id p r. still (with_kept-links id p _ r.state);
  forgets = λ id r. still refl;
  counts = λ c r. still refl;
  schedules_graft = keeps-schedule_graft;
  unmarks = λ id r. still refl;
  evicts = keeps-evict;
  begins = λ r. still refl;
}

keeps-caches : (now id : ℕ) (content : List ℕ) (round : ℕ) (r : Run) → Keeps r (cache_at now id content round r)
unfolding cache_at
keeps-caches now id content round r = still refl

keeps-emits : (p : ℕ) (content : List ℕ) (d : Delivery) (r : Run) → Keeps r (act (Emitted p content d) r)
unfolding act
keeps-emits p content d r = still refl

keeps-announces : (id : ℕ) (h : Hop) (r : Run) → Keeps r (announce id h r)
unfolding announce
keeps-announces id h r = still refl

keeps-leaves : (id : ℕ) (hs : List Hop) (r : Run) → Keeps r (leave_announcers id hs r)
unfolding leave_announcers
keeps-leaves id hs r = still refl

keeps-grafts : (now id : ℕ) (h : Hop) (r : Run) → Keeps r (note_graft now id h r)
unfolding note_graft
keeps-grafts now id h r = still refl

keeps-dispatch : (r : Run) → Keeps r (on_dispatch_timer r)
unfolding on_dispatch_timer clear_dispatch
keeps-dispatch r =
    let k : Keeps r (with_state (with_queue [] r.state) r) = still refl in
    let d = walk-dispatch_to Keeps keeps-sending _ _ _ (with_state (with_queue [] r.state) r) in
    record { same = λ q. d.same q ∙ k.same q; quiets = λ q. d.quiets q ∙ k.quiets q; ordered = λ h. d.ordered (k.ordered h) }

keeps-announce_dropped : (r : Run) → Keeps r (on_announce_dropped_timer r)
unfolding on_announce_dropped_timer move_oldest dispatch_if_queued
keeps-announce_dropped r =
    let r₁ : Run = with_state (move_oldest (still_cached r.state) r.state) r in
    let k : Keeps r r₁ = still refl in
    let l : Keeps r₁ (dispatch_if_queued r₁) = walk-if Keeps (is_empty r₁.state.queue) (keeps-refl r₁) (keeps-schedule_dispatch r₁) in
    k ⨾ l ⨾ still (only-schedule (dispatch_if_queued r₁)).links

-- the events

pub keeps-first_event : (now : ℕ) (r : Run) → Keeps r (first_event now r)
keeps-first_event now r = walk-first_event Keeps keeps-steps now r

pub keeps-on_timer : (now : ℕ) (t : Timer) (r : Run) → Keeps r (on_timer now t r)
unfolding on_timer
keeps-on_timer now (SendGraft id) r = walk-on_send_graft_timer Keeps keeps-steps keeps-leaves keeps-grafts now id r
keeps-on_timer now DispatchLazyPush r = keeps-dispatch r
keeps-on_timer now EvictCache r = keeps-evict now r
keeps-on_timer now AnnounceDropped r = keeps-announce_dropped r

module _ (hash : List ℕ → ℕ) where
  keeps-on_message : (now sender : ℕ) (m : Message) (r : Run) → Keeps r (on_message hash now sender m r)
  unfolding on_message if_neighbour
  keeps-on_message now sender (Gossip id content d) r = walk-on_gossip Keeps keeps-steps keeps-caches keeps-emits hash now sender id content d r
  keeps-on_message now sender Prune r = walk-if Keeps (is_neighbour sender r.state.links) (walk-on_prune Keeps keeps-steps sender r) (keeps-refl r)
  keeps-on_message now sender (Graft wanted round) r = walk-if Keeps (is_neighbour sender r.state.links) (walk-on_graft Keeps keeps-steps sender wanted r) (keeps-refl r)
  keeps-on_message now sender (IHave hs) r = walk-if Keeps (is_neighbour sender r.state.links) (walk-on_ihave Keeps keeps-steps keeps-announces sender hs r) (keeps-refl r)

  pub keeps-handle_message : (now sender : ℕ) (m : Message) (r : Run) → Keeps r (handle_message hash now sender m r)
  unfolding handle_message
  keeps-handle_message now sender m r = let k : Keeps r _ = still refl in k ⨾ keeps-on_message now sender m _

  pub keeps-broadcast_event : (now : ℕ) (content : List ℕ) (r : Run) → Keeps r (broadcast hash now content r)
  keeps-broadcast_event now content r = walk-broadcast Keeps keeps-steps keeps-caches hash now content r
