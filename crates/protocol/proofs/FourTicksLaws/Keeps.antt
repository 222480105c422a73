-- Of one event: what stands recorded for a neighbour stays there, at its place or nearer; what stands queued stays; and a panel that has begun stays so.
use Rattle.std.proofs.Common.{ℕ, ◌≤◌, arith, ◌≡◌, refl, sym, ap, ◌∙◌, Bool, true, false, not, ◌&&◌, ◌||◌, List, [], ◌∷◌, ◌++◌, eqb, eqb-true, if◌then◌else◌, Option, Some, None}
use Rattle.storage.specs.Lists.Base.{is_empty, filter, any, member}
use Rattle.storage.proofs.ListsLaws.MapLaws.{cases, true≢, and_left, and_right}
use Rattle.storage.proofs.ListsLaws.Lists.{any_left}
use Rattle.time_cache.specs.TimeCache.{holds}
use Rattle.postcard.specs.Message.{Delivery, Ihave, Message, Action, Scheduled, Emitted}
use Rattle.protocol.specs.Links.{is_neighbour}
use Rattle.protocol.specs.State.{Hop, Note, Grafts}
use Rattle.protocol.specs.Run.{Run, with_state, act, send}
use Rattle.protocol.specs.Push.{for_peer, notes, schedule_dispatch, schedule_announce_dropped, record_full, record_also, note_one, note_each, note_dropped, lazy_push}
use Rattle.protocol.specs.Gossips.{mark_received, cache_at, with_first, set_first, forget_missing, update_links, with_kept, set_kept}
use Rattle.protocol.specs.Control.{announce, schedule_graft, note_graft, leave_announcers, unmark}
use Rattle.protocol.specs.Ticks.{evict, on_evict_cache_timer}
use Rattle.protocol.proofs.Walk.{Sending, Steps}
use Rattle.protocol.specs.AlikeCalls.Peerwise.{of_peer}
use Rattle.storage.proofs.ListsLaws.ListLaws.{filter-append}
use Rattle.protocol.proofs.FourTicksLaws.Places.{last, last-append}

module _ (p id : ℕ) where
  -- the place on the record
  abbrev pub place : Run → ℕ
  place r = last id (of_peer p r.state.dropped)

  pub record Keeps (r r' : Run) : Type 0 where
    pub stays : any (notes p id) r.state.dropped ≡ true → any (notes p id) r'.state.dropped ≡ true
    pub nearer : any (notes p id) r.state.dropped ≡ true → place r' ≤ place r
    pub queue : any (notes p id) r.state.queue ≡ true → any (notes p id) r'.state.queue ≡ true
    pub begun : r.state.init ≡ true → r'.state.init ≡ true

  pub keeps-refl : (r : Run) → Keeps r r
  keeps-refl r = record { stays = λ h. h; nearer = λ h. omega arith; queue = λ h. h; begun = λ h. h }

  pub keeps-trans : (a b c : Run) → Keeps a b → Keeps b c → Keeps a c
  keeps-trans a b c x y = record {
    stays = λ h. y.stays (x.stays h);
    nearer = λ h. omega (arith, x.nearer h, y.nearer (x.stays h));
    queue = λ h. y.queue (x.queue h);
    begun = λ h. y.begun (x.begun h);
  }

  -- a step that changes neither
  still : {r r' : Run} → r'.state.dropped ≡ r.state.dropped → r'.state.queue ≡ r.state.queue → (r.state.init ≡ true → r'.state.init ≡ true) → Keeps r r'
  still {r} {r'} e f i = record { stays = λ h. rw e h; nearer = λ h. rw e (omega arith); queue = λ h. rw f h; begun = i }

  keeps-if : {r x y : Run} (b : Bool) → Keeps r x → Keeps r y → Keeps r (if b then x else y)
  keeps-if true k l = k
  keeps-if false k l = l

  keeps-act : (a : Action) (r : Run) → Keeps r (act a r)
  unfolding act
  keeps-act a r = still refl refl (λ i. i)

  keeps-send : (q : ℕ) (m : Message) (r : Run) → Keeps r (send q m r)
  unfolding send
  keeps-send q m r = still refl refl (λ i. i)

  pub keeps-schedule_dispatch : (r : Run) → Keeps r (schedule_dispatch r)
  unfolding schedule_dispatch act
  keeps-schedule_dispatch r = keeps-if r.state.timers.dispatch (keeps-refl r) (still refl refl (λ i. i))

  pub keeps-schedule_announce : (r : Run) → Keeps r (schedule_announce_dropped r)
  unfolding schedule_announce_dropped act
  keeps-schedule_announce r = keeps-if (is_empty r.state.dropped || r.state.timers.announce) (keeps-refl r) (still refl refl (λ i. i))

  -- an entry of another identifier, or for another peer, behind the others
  behind : (d : List Note) (n : Note) → notes p id n ≡ false → last id (of_peer p (d ++ (n ∷ []))) ≤ last id (of_peer p d)
  unfolding filter any
  behind d n h =
      let e : last id (of_peer p (d ++ (n ∷ []))) ≡ last id (of_peer p d) =
      ap (last id) (filter-append (for_peer p) d (n ∷ [])) ∙ last-append id (of_peer p d) (of_peer p (n ∷ [])) (cases (eqb n.peer p) (λ a. rw a (rw (rw a at h))) (λ a. rw a refl)) in
      omega (arith, e)

  keeps-note_one : (q : ℕ) (h : Ihave) (r : Run) → Keeps r (note_one q h r)
  unfolding note_one record_also
  keeps-note_one q h r =
      cases (not (record_full q r.state.dropped) && holds h.id r.state.cache && not (any (notes q h.id) r.state.dropped))
      (λ c. rw c (record {
        stays = λ k. any_left (notes p id) r.state.dropped _ k;
        nearer = λ k. behind r.state.dropped (record { peer = q; id = h.id; round = h.round }) (other k (new c));
        queue = λ k. k;
        begun = λ i. i;
      }))
      (λ c. rw c (keeps-refl r))
    where
      new : (not (record_full q r.state.dropped) && holds h.id r.state.cache && not (any (notes q h.id) r.state.dropped)) ≡ true → any (notes q h.id) r.state.dropped ≡ false
      new c = not-true (any (notes q h.id) r.state.dropped) (and_right (not (record_full q r.state.dropped) && holds h.id r.state.cache) (not (any (notes q h.id) r.state.dropped)) c)
        where
          not-true : (b : Bool) → not b ≡ true → b ≡ false
          not-true true e = true≢ e
          not-true false e = refl

      other : any (notes p id) r.state.dropped ≡ true → any (notes q h.id) r.state.dropped ≡ false → (eqb q p && eqb h.id id) ≡ false
      other k n = cases (eqb q p && eqb h.id id)
          (λ t. true≢ (sym n ∙ (rw (eqb-true q p (and_left (eqb q p) (eqb h.id id) t), eqb-true h.id id (and_right (eqb q p) (eqb h.id id) t)) k)))
          (λ t. t)

  keeps-note_each : (q : ℕ) (hs : List Ihave) (r : Run) → Keeps r (note_each q hs r)
  unfolding note_each
  keeps-note_each q [] r = keeps-refl r
  keeps-note_each q (h ∷ hs) r = keeps-trans _ _ _ (keeps-note_one q h r) (keeps-note_each q hs (note_one q h r))

  keeps-note_dropped : (q : ℕ) (hs : List Ihave) (r : Run) → Keeps r (note_dropped q hs r)
  unfolding note_dropped
  keeps-note_dropped q hs r = keeps-if (is_neighbour q r.state.links) (keeps-trans _ _ _ (keeps-note_each q hs r) (keeps-schedule_announce _)) (keeps-refl r)

  keeps-lazy_push : (i round sender : ℕ) (r : Run) → Keeps r (lazy_push i round sender r)
  unfolding lazy_push
  keeps-lazy_push i round sender r =
      keeps-trans _ _ _ (record { stays = λ h. h; nearer = λ h. omega arith; queue = λ h. any_left (notes p id) r.state.queue _ h; begun = λ i. i }) (keeps-schedule_dispatch _)

  with_first-still : (i : ℕ) (h : Hop) (o : Option Grafts) (r : Run) → Keeps r (with_state (with_first i h o r.state) r)
  unfolding with_first
  with_first-still i h None r = still refl refl (λ i. i)
  with_first-still i h (Some g) r = still refl refl (λ i. i)

  with_kept-still : (i q : ℕ) (o : Option Grafts) (r : Run) → Keeps r (with_state (with_kept i q o r.state) r)
  unfolding with_kept
  with_kept-still i q None r = still refl refl (λ i. i)
  with_kept-still i q (Some g) r = still refl refl (λ i. i)

  keeps-schedule_graft : (i : ℕ) (r : Run) → Keeps r (schedule_graft i r)
  unfolding schedule_graft act
  keeps-schedule_graft i r = keeps-if (member i r.state.timers.graft) (keeps-refl r) (still refl refl (λ i. i))

  pub keeps-evict : (now : ℕ) (r : Run) → Keeps r (on_evict_cache_timer now r)
  unfolding on_evict_cache_timer evict act
  keeps-evict now r = still refl refl (λ i. i)

  pub keeps-sending : Sending Keeps
  keeps-sending = record { stays = keeps-refl; follows = keeps-trans; sends = keeps-send; notes = keeps-note_dropped }

  pub keeps-steps : Steps Keeps
  unfolding update_links mark_received set_first set_kept forget_missing unmark
  keeps-steps = record {
    sending = keeps-sending;
    schedules = λ d t r. keeps-act (Scheduled d t) r;
    queues = keeps-lazy_push;
    marks_eager = λ q r. still refl refl (λ i. i);
    marks_lazy = λ q r. still refl refl (λ i. i);
    receives = λ now i r. still refl refl (λ i. i);
    sets_first = λ i sender round r. with_first-still i _ _ r;
    keeps = λ i q r. with_kept-still i q _ r;
    forgets = λ i r. still refl refl (λ i. i);
    counts = λ c r. still refl refl (λ i. i);
    schedules_graft = keeps-schedule_graft;
    unmarks = λ i r. still refl refl (λ i. i);
    evicts = keeps-evict;
    begins = λ r. still refl refl (λ i. refl);
  }

  pub keeps-caches : (now i : ℕ) (content : List ℕ) (round : ℕ) (r : Run) → Keeps r (cache_at now i content round r)
  unfolding cache_at
  keeps-caches now i content round r = still refl refl (λ i. i)

  pub keeps-announces : (i : ℕ) (h : Hop) (r : Run) → Keeps r (announce i h r)
  unfolding announce
  keeps-announces i h r = still refl refl (λ i. i)

  pub keeps-leaves : (i : ℕ) (hs : List Hop) (r : Run) → Keeps r (leave_announcers i hs r)
  unfolding leave_announcers
  keeps-leaves i hs r = still refl refl (λ i. i)

  pub keeps-grafts : (now i : ℕ) (h : Hop) (r : Run) → Keeps r (note_graft now i h r)
  unfolding note_graft
  keeps-grafts now i h r = still refl refl (λ i. i)

  pub keeps-emits : (q : ℕ) (content : List ℕ) (d : Delivery) (r : Run) → Keeps r (act (Emitted q content d) r)
  keeps-emits q content d r = keeps-act (Emitted q content d) r
