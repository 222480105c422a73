-- The guarantee, second and last sentence, of one event: the record stays within its bounds, and a queue or record stands with its flag and timer.
use Rattle.std.proofs.Common.{ℕ, ◌≡◌, refl, sym, ◌∙◌, Bool, true, false, not, ◌&&◌, ◌||◌, List, [], ◌∷◌, ◌++◌, map, ◌⊎◌, inl, inr, if◌then◌else◌, Option, Some, None}
use Rattle.storage.specs.Lists.Base.{is_empty, any, member}
use Rattle.time_cache.specs.TimeCache.{holds, expired_keys}
use Rattle.protocol.specs.Links.{is_neighbour}
use Rattle.postcard.specs.Message.{Delivery, Ihave, Message, DispatchLazyPush, AnnounceDropped, Action, Sent, Scheduled, Emitted, Forgotten}
use Rattle.protocol.specs.State.{Hop, Note, Grafts, with_queue}
use Rattle.protocol.specs.Run.{Run, with_state, act, send, takes}
use Rattle.protocol.specs.Push.{notes, schedule_dispatch, schedule_announce_dropped, record_full, record_also, note_one, note_each, note_dropped, lazy_push}
use Rattle.protocol.specs.Gossips.{mark_received, cache_at, with_first, set_first, forget_missing, update_links, with_kept, set_kept}
use Rattle.protocol.specs.Control.{announce, schedule_graft, note_graft, leave_announcers, unmark}
use Rattle.protocol.specs.Ticks.{move_oldest, still_cached, dispatch_if_queued, on_announce_dropped_timer, evict, on_evict_cache_timer}
use Rattle.protocol.specs.NoNeighbourPassedOver.{dispatch_tick, announce_tick, is_tick, schedules_tick}
use Rattle.protocol.specs.Consistent.{Within, Flagged}
use Rattle.storage.proofs.ListsLaws.MapLaws.{cases, true≢}
use Rattle.storage.proofs.ListsLaws.Lists.{or_left, or_right, any_left, any-right, any-one}
use Rattle.protocol.proofs.Walk.{Sending, Steps}
use Rattle.protocol.proofs.RecordBounds.{within-filter, within-younger, within_more}
use Rattle.protocol.specs.declared.TheConstants.{ANNOUNCE_DROPPED_INTERVAL}

-- counting

-- what every step but the two ticks keeps
pub record Sound (r r' : Run) : Type 0 where
  pub settings : r'.state.settings ≡ r.state.settings
  pub within : Within r.state.dropped → Within r'.state.dropped
  pub queue_flag : Flagged r.state.queue r.state.timers.dispatch → Flagged r'.state.queue r'.state.timers.dispatch
  pub record_flag : Flagged r.state.dropped r.state.timers.announce → Flagged r'.state.dropped r'.state.timers.announce
  pub dispatch_timer : r'.state.timers.dispatch ≡ true → (r.state.timers.dispatch ≡ true) ⊎ (any (schedules_tick dispatch_tick) r'.actions ≡ true)
  pub announce_timer : r'.state.timers.announce ≡ true → (r.state.timers.announce ≡ true) ⊎ (any (schedules_tick announce_tick) r'.actions ≡ true)
  pub actions : (f : Action → Bool) → any f r.actions ≡ true → any f r'.actions ≡ true

pub sound-refl : (r : Run) → Sound r r
sound-refl r = record { settings = refl; within = λ h. h; queue_flag = λ h. h; record_flag = λ h. h; dispatch_timer = λ h. inl h; announce_timer = λ h. inl h; actions = λ f h. h }

pub sum-on : {P Q R S : Type 0} → (Q → P ⊎ R) → (R → S) → Q ⊎ S → P ⊎ S
sum-on {P} {Q} {R} {S} f g (inl q) = more (f q)
  where
    more : P ⊎ R → P ⊎ S
    more (inl x) = inl x
    more (inr x) = inr (g x)
sum-on f g (inr s) = inr s

sum_left : {P Q S : Type 0} → (P → Q) → P ⊎ S → Q ⊎ S
sum_left f (inl x) = inl (f x)
sum_left f (inr x) = inr x

pub sound-trans : (a b c : Run) → Sound a b → Sound b c → Sound a c
sound-trans a b c x y = record {
  settings = y.settings ∙ x.settings;
  within = λ h. y.within (x.within h);
  queue_flag = λ h. y.queue_flag (x.queue_flag h);
  record_flag = λ h. y.record_flag (x.record_flag h);
  dispatch_timer = λ h. sum-on x.dispatch_timer (y.actions (schedules_tick dispatch_tick)) (y.dispatch_timer h);
  announce_timer = λ h. sum-on x.announce_timer (y.actions (schedules_tick announce_tick)) (y.announce_timer h);
  actions = λ f h. y.actions f (x.actions f h);
}

-- a step that adds actions at most
sound-act : (r : Run) (a : Action) → Sound r (act a r)
unfolding act
sound-act r a = record { settings = refl; within = λ h. h; queue_flag = λ h. h; record_flag = λ h. h; dispatch_timer = λ h. inl h; announce_timer = λ h. inl h; actions = λ f h. any_left f r.actions (a ∷ []) h }

sound-send : (p : ℕ) (m : Message) (r : Run) → Sound r (send p m r)
unfolding send
sound-send p m r = record { settings = refl; within = λ h. h; queue_flag = λ h. h; record_flag = λ h. h; dispatch_timer = λ h. inl h; announce_timer = λ h. inl h; actions = λ f h. any_left f r.actions (Sent p (takes p r) m ∷ []) h }

sound-if : {r x y : Run} (b : Bool) → (b ≡ true → Sound r x) → (b ≡ false → Sound r y) → Sound r (if b then x else y)
sound-if true f g = f refl
sound-if false f g = g refl

-- the two schedulers

schedules-dispatch : (d : ℕ) (xs : List Action) → any (schedules_tick dispatch_tick) (xs ++ (Scheduled d DispatchLazyPush ∷ [])) ≡ true
unfolding schedules_tick is_tick
schedules-dispatch d xs = any-right (schedules_tick dispatch_tick) xs (Scheduled d DispatchLazyPush ∷ []) (any-one (schedules_tick dispatch_tick) (Scheduled d DispatchLazyPush))

schedules-announce : (d : ℕ) (xs : List Action) → any (schedules_tick announce_tick) (xs ++ (Scheduled d AnnounceDropped ∷ [])) ≡ true
unfolding schedules_tick is_tick
schedules-announce d xs = any-right (schedules_tick announce_tick) xs (Scheduled d AnnounceDropped ∷ []) (any-one (schedules_tick announce_tick) (Scheduled d AnnounceDropped))

dispatch-flag : (r : Run) → (schedule_dispatch r).state.timers.dispatch ≡ true
unfolding schedule_dispatch act
dispatch-flag r = cases r.state.timers.dispatch (λ p. rw p) (λ p. rw p)

sound-schedule_dispatch : (r : Run) → Sound r (schedule_dispatch r)
unfolding schedule_dispatch act
sound-schedule_dispatch r = sound-if r.state.timers.dispatch (λ p. sound-refl r) (λ p. record {
  settings = refl;
  within = λ h. h;
  queue_flag = λ h. or_right (is_empty r.state.queue) true refl;
  record_flag = λ h. h;
  dispatch_timer = λ h. inr (schedules-dispatch _ r.actions);
  announce_timer = λ h. inl h;
  actions = λ f h. any_left f r.actions _ h;
})

announce-flag : (r : Run) → Flagged (schedule_announce_dropped r).state.dropped (schedule_announce_dropped r).state.timers.announce
unfolding schedule_announce_dropped act
announce-flag r = cases (is_empty r.state.dropped || r.state.timers.announce) (λ p. rw p p) (λ p. rw p (or_right (is_empty r.state.dropped) true refl))

sound-schedule_announce_dropped : (r : Run) → Sound r (schedule_announce_dropped r)
unfolding schedule_announce_dropped act
sound-schedule_announce_dropped r = sound-if (is_empty r.state.dropped || r.state.timers.announce) (λ p. sound-refl r) (λ p. record {
  settings = refl;
  within = λ h. h;
  queue_flag = λ h. h;
  record_flag = λ h. or_right (is_empty r.state.dropped) true refl;
  dispatch_timer = λ h. inl h;
  announce_timer = λ h. inr (schedules-announce ANNOUNCE_DROPPED_INTERVAL.0 r.actions);
  actions = λ f h. any_left f r.actions _ h;
})

-- noting: the record may stand without its flag until the end

pub record Noting (r r' : Run) : Type 0 where
  pub settings : r'.state.settings ≡ r.state.settings
  pub within : Within r.state.dropped → Within r'.state.dropped
  pub queue : r'.state.queue ≡ r.state.queue
  pub dispatch_scheduled : r'.state.timers.dispatch ≡ r.state.timers.dispatch
  pub announce_scheduled : r'.state.timers.announce ≡ r.state.timers.announce
  pub actions : r'.actions ≡ r.actions

noting-one : (p : ℕ) (h : Ihave) (r : Run) → Noting r (note_one p h r)
unfolding note_one record_also
noting-one p h r =
    cases (record_full p r.state.dropped)
    (λ f. rw f (record { settings = refl; within = λ w. w; queue = refl; dispatch_scheduled = refl; announce_scheduled = refl; actions = refl }))
    (λ f. rw f (cases (holds h.id r.state.cache && not (any (notes p h.id) r.state.dropped))
    (λ c. rw c (record { settings = refl; within = λ w. within_more _ r.state.dropped f w; queue = refl; dispatch_scheduled = refl; announce_scheduled = refl; actions = refl }))
    (λ c. rw c (record { settings = refl; within = λ w. w; queue = refl; dispatch_scheduled = refl; announce_scheduled = refl; actions = refl }))))

noting-each : (p : ℕ) (hs : List Ihave) (r : Run) → Noting r (note_each p hs r)
unfolding note_each
noting-each p [] r = record { settings = refl; within = λ w. w; queue = refl; dispatch_scheduled = refl; announce_scheduled = refl; actions = refl }
noting-each p (h ∷ hs) r =
    let x = noting-one p h r in
    let y = noting-each p hs (note_one p h r) in
    record { settings = y.settings ∙ x.settings; within = λ w. y.within (x.within w); queue = y.queue ∙ x.queue; dispatch_scheduled = y.dispatch_scheduled ∙ x.dispatch_scheduled; announce_scheduled = y.announce_scheduled ∙ x.announce_scheduled; actions = y.actions ∙ x.actions }

-- a step that ends by scheduling for the record
noting-sound : (r r' : Run) → Noting r r' → Sound r (schedule_announce_dropped r')
noting-sound r r' x =
    let y = sound-schedule_announce_dropped r' in
    record {
      settings = y.settings ∙ x.settings;
      within = λ w. y.within (x.within w);
      queue_flag = λ h. y.queue_flag (rw (x.queue, x.dispatch_scheduled) h);
      record_flag = λ h. announce-flag r';
      dispatch_timer = λ h. sum_left (λ k. sym x.dispatch_scheduled ∙ k) (y.dispatch_timer h);
      announce_timer = λ h. sum_left (λ k. sym x.announce_scheduled ∙ k) (y.announce_timer h);
      actions = λ f h. y.actions f (rw x.actions h);
    }

sound-note_dropped : (p : ℕ) (hs : List Ihave) (r : Run) → Sound r (note_dropped p hs r)
unfolding note_dropped
sound-note_dropped p hs r = sound-if (is_neighbour p r.state.links) (λ h. noting-sound r (note_each p hs r) (noting-each p hs r)) (λ h. sound-refl r)

sound-queue : (q : List Note) (r : Run) → Sound r (schedule_dispatch (with_state (with_queue q r.state) r))
sound-queue q r =
    let r' : Run = with_state (with_queue q r.state) r in
    let y = sound-schedule_dispatch r' in
    record {
      settings = y.settings;
      within = λ w. y.within w;
      queue_flag = λ h. or_right (is_empty (schedule_dispatch r').state.queue) (schedule_dispatch r').state.timers.dispatch (dispatch-flag r');
      record_flag = λ h. y.record_flag h;
      dispatch_timer = λ h. y.dispatch_timer h;
      announce_timer = λ h. y.announce_timer h;
      actions = λ f h. y.actions f h;
    }

sound-lazy_push : (id round sender : ℕ) (r : Run) → Sound r (lazy_push id round sender r)
unfolding lazy_push
sound-lazy_push id round sender r = sound-queue _ r

-- a step that changes nothing of these
still : {r r' : Run} → r'.state.settings ≡ r.state.settings → r'.state.dropped ≡ r.state.dropped → r'.state.queue ≡ r.state.queue →
    r'.state.timers.dispatch ≡ r.state.timers.dispatch → r'.state.timers.announce ≡ r.state.timers.announce → r'.actions ≡ r.actions → Sound r r'
still {r} {r'} a b c d e f = record {
  settings = a;
  within = λ w. rw b w;
  queue_flag = λ h. rw (c, d) h;
  record_flag = λ h. rw (b, e) h;
  dispatch_timer = λ h. inl (sym d ∙ h);
  announce_timer = λ h. inl (sym e ∙ h);
  actions = λ g h. rw f h;
}

with_first-still : (id : ℕ) (h : Hop) (o : Option Grafts) (r : Run) → Sound r (with_state (with_first id h o r.state) r)
unfolding with_first
with_first-still id h None r = still refl refl refl refl refl refl
with_first-still id h (Some g) r = still refl refl refl refl refl refl

with_kept-still : (id p : ℕ) (o : Option Grafts) (r : Run) → Sound r (with_state (with_kept id p o r.state) r)
unfolding with_kept
with_kept-still id p None r = still refl refl refl refl refl refl
with_kept-still id p (Some g) r = still refl refl refl refl refl refl

sound-schedule_graft : (id : ℕ) (r : Run) → Sound r (schedule_graft id r)
unfolding schedule_graft
sound-schedule_graft id r = sound-if (member id r.state.timers.graft) (λ p. sound-refl r)
    (λ p. let r' : Run = with_state _ r in sound-trans r r' _ (still refl refl refl refl refl refl) (sound-act r' _))

pub sound-evict : (now : ℕ) (r : Run) → Sound r (on_evict_cache_timer now r)
unfolding on_evict_cache_timer evict act
sound-evict now r = record {
  settings = refl;
  within = λ w. w;
  queue_flag = λ h. h;
  record_flag = λ h. h;
  dispatch_timer = λ h. inl h;
  announce_timer = λ h. inl h;
  actions = λ f h. any_left f (r.actions ++ map (λ id. Forgotten id) (expired_keys now r.state.cache)) _ (any_left f r.actions _ h);
}

pub sound-sending : Sending Sound
sound-sending = record { stays = sound-refl; follows = sound-trans; sends = sound-send; notes = sound-note_dropped }

pub sound-steps : Steps Sound
unfolding update_links mark_received set_first set_kept forget_missing unmark
sound-steps = record {
  sending = sound-sending;
  schedules = λ d t r. sound-act r (Scheduled d t);
  queues = sound-lazy_push;
  marks_eager = λ p r. still refl refl refl refl refl refl;
  marks_lazy = λ p r. still refl refl refl refl refl refl;
  receives = λ now id r. still refl refl refl refl refl refl;
  sets_first = λ id sender round r. with_first-still id _ _ r;
  keeps = λ id p r. with_kept-still id p _ r;
  forgets = λ id r. still refl refl refl refl refl refl;
  counts = λ c r. still refl refl refl refl refl refl;
  schedules_graft = sound-schedule_graft;
  unmarks = λ id r. still refl refl refl refl refl refl;
  evicts = sound-evict;
  begins = λ r. still refl refl refl refl refl refl;
}

pub sound-caches : (now id : ℕ) (content : List ℕ) (round : ℕ) (r : Run) → Sound r (cache_at now id content round r)
unfolding cache_at
sound-caches now id content round r = still refl refl refl refl refl refl

pub sound-announces : (id : ℕ) (h : Hop) (r : Run) → Sound r (announce id h r)
unfolding announce
sound-announces id h r = still refl refl refl refl refl refl

pub sound-leaves : (id : ℕ) (hs : List Hop) (r : Run) → Sound r (leave_announcers id hs r)
unfolding leave_announcers
sound-leaves id hs r = still refl refl refl refl refl refl

pub sound-grafts : (now id : ℕ) (h : Hop) (r : Run) → Sound r (note_graft now id h r)
unfolding note_graft
sound-grafts now id h r = still refl refl refl refl refl refl

pub sound-emits : (p : ℕ) (content : List ℕ) (d : Delivery) (r : Run) → Sound r (act (Emitted p content d) r)
sound-emits p content d r = sound-act r (Emitted p content d)

-- the tick of the record

pub record Announces (r r' : Run) : Type 0 where
  pub settings : r'.state.settings ≡ r.state.settings
  pub within : Within r.state.dropped → Within r'.state.dropped
  pub queue_flag : Flagged r'.state.queue r'.state.timers.dispatch
  pub record_flag : Flagged r'.state.dropped r'.state.timers.announce
  pub dispatch_timer : r'.state.timers.dispatch ≡ true → (r.state.timers.dispatch ≡ true) ⊎ (any (schedules_tick dispatch_tick) r'.actions ≡ true)
  pub announce_timer : r'.state.timers.announce ≡ true → any (schedules_tick announce_tick) r'.actions ≡ true
  pub actions : (f : Action → Bool) → any f r.actions ≡ true → any f r'.actions ≡ true

queued-flag : (r : Run) → Flagged (dispatch_if_queued r).state.queue (dispatch_if_queued r).state.timers.dispatch
unfolding dispatch_if_queued
queued-flag r = cases (is_empty r.state.queue) (λ p. rw p (or_left (is_empty r.state.queue) _ p))
    (λ p. rw p (or_right (is_empty (schedule_dispatch r).state.queue) _ (dispatch-flag r)))

sound-dispatch_if_queued : (r : Run) → Sound r (dispatch_if_queued r)
unfolding dispatch_if_queued
sound-dispatch_if_queued r = sound-if (is_empty r.state.queue) (λ p. sound-refl r) (λ p. sound-schedule_dispatch r)

pub announces-dropped : (r : Run) → Announces r (on_announce_dropped_timer r)
unfolding on_announce_dropped_timer move_oldest still_cached
announces-dropped r =
    let r₁ : Run = with_state (move_oldest (still_cached r.state) r.state) r in
    let x : Sound r₁ (dispatch_if_queued r₁) = sound-dispatch_if_queued r₁ in
    let y : Sound (dispatch_if_queued r₁) (schedule_announce_dropped (dispatch_if_queued r₁)) = sound-schedule_announce_dropped (dispatch_if_queued r₁) in
    let z : Sound r₁ (schedule_announce_dropped (dispatch_if_queued r₁)) = sound-trans r₁ (dispatch_if_queued r₁) (schedule_announce_dropped (dispatch_if_queued r₁)) x y in
    record {
      settings = z.settings;
      within = λ w. z.within (within-younger _ _ (within-filter _ r.state.dropped w));
      queue_flag = y.queue_flag (queued-flag r₁);
      record_flag = announce-flag (dispatch_if_queued r₁);
      dispatch_timer = z.dispatch_timer;
      announce_timer = λ h. second (z.announce_timer h);
      actions = z.actions;
    }
  where
    second : {P : Type 0} → (false ≡ true) ⊎ P → P
    second (inl e) = true≢ e
    second (inr p) = p
