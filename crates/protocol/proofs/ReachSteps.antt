-- The guarantee, third sentence, of one event: a step never loses an identifier for a peer. Where it leaves queue or record it goes out, or comes back to a full record.
use Rattle.std.proofs.Common.{Option, Some, None, ℕ, ◌≡◌, refl, Bool, true, false, not, ◌&&◌, ◌||◌, List, [], ◌∷◌, ◌++◌, map, ◌⊎◌, inl, inr, arith, leb, length, length-append, leb-true, le-leb}
use Rattle.storage.specs.Lists.Base.{is_empty, any, count, member}
use Rattle.storage.specs.Lists.Map.{lookup}
use Rattle.time_cache.specs.TimeCache.{Timed, Cache, holds, pop_all, due, expire_until, expired_keys}
use Rattle.protocol.specs.Links.{is_neighbour}
use Rattle.postcard.specs.Message.{Ihave, Message, Action, Sent, Scheduled, Forgotten, Event}
use Rattle.protocol.specs.State.{Hop, Note, Grafts}
use Rattle.protocol.specs.Run.{Run, with_state, act, send, takes}
use Rattle.protocol.specs.Push.{for_peer, notes, schedule_dispatch, schedule_announce_dropped, record_full, record_also, note_one, note_each, note_dropped, lazy_push}
use Rattle.protocol.specs.Gossips.{mark_received, with_first, set_first, forget_missing, update_links, with_kept, set_kept}
use Rattle.protocol.specs.Control.{announce, schedule_graft, note_graft, leave_announcers, unmark}
use Rattle.protocol.specs.Ticks.{evict, on_evict_cache_timer}
use Rattle.protocol.specs.Answer.{accept}
use Rattle.protocol.specs.NoNeighbourPassedOver.{by_action, carries, sends, was_taken, was_handed_back, sent, left_out, met_full}
use Rattle.storage.proofs.ListsLaws.MapLaws.{cases, true≢}
use Rattle.storage.proofs.ListsLaws.Lists.{or_cases, or_left, or_right, any_left}
use Rattle.storage.proofs.ListsLaws.ListLaws.{count-append}
use Rattle.protocol.proofs.Invariant.{Same, Stands, Settled, was_sent, was_full, queued_now, recorded_now}
use Rattle.protocol.proofs.Walk.{Sending, Steps, walk-if}
use Rattle.protocol.proofs.GraftSteps.{lookup-pop_all}
use Rattle.protocol.specs.declared.TheConstants.{MAX_DROPPED, MAX_DROPPED_PER_PEER}

-- queue, record and actions only grow, and the cache only shrinks
pub record Grows (r r' : Run) : Type 0 where
  pub queue : (f : Note → Bool) → any f r.state.queue ≡ true → any f r'.state.queue ≡ true
  pub dropped : (f : Note → Bool) → any f r.state.dropped ≡ true → any f r'.state.dropped ≡ true
  pub actions : (f : Action → Bool) → any f r.actions ≡ true → any f r'.actions ≡ true
  pub full : (p : ℕ) → record_full p r.state.dropped ≡ true → record_full p r'.state.dropped ≡ true
  pub cached : (id : ℕ) → Same id r.state.cache r'.state.cache

pub grows-refl : (r : Run) → Grows r r
grows-refl r = record { queue = λ f h. h; dropped = λ f h. h; actions = λ f h. h; full = λ p h. h; cached = λ id v h. h }

pub grows-trans : (a b c : Run) → Grows a b → Grows b c → Grows a c
grows-trans a b c x y = record {
  queue = λ f h. y.queue f (x.queue f h);
  dropped = λ f h. y.dropped f (x.dropped f h);
  actions = λ f h. y.actions f (x.actions f h);
  full = λ p h. y.full p (x.full p h);
  cached = λ id v h. x.cached id v (y.cached id v h);
}

-- none of these changes
pub alike : {r r' : Run} → r'.state.queue ≡ r.state.queue → r'.state.dropped ≡ r.state.dropped → r'.actions ≡ r.actions → r'.state.cache ≡ r.state.cache → Grows r r'
alike a b c e = record { queue = λ f h. rw a h; dropped = λ f h. rw b h; actions = λ f h. rw c h; full = λ p h. rw b h; cached = λ id v h. rw e at h }

pub grows-act : (a : Action) (r : Run) → Grows r (act a r)
unfolding act
grows-act a r = record { queue = λ f h. h; dropped = λ f h. h; actions = λ f h. any_left f r.actions (a ∷ []) h; full = λ p h. h; cached = λ id v h. h }

grows-send : (p : ℕ) (m : Message) (r : Run) → Grows r (send p m r)
unfolding send
grows-send p m r = record { queue = λ f h. h; dropped = λ f h. h; actions = λ f h. any_left f r.actions (Sent p (takes p r) m ∷ []) h; full = λ p h. h; cached = λ id v h. h }

-- a full record stays full with one more
full-more : (p : ℕ) (ns : List Note) (n : Note) → record_full p ns ≡ true → record_full p (ns ++ (n ∷ [])) ≡ true
unfolding record_full
full-more p ns n f = on (or_cases (leb MAX_DROPPED_PER_PEER (count (for_peer p) ns)) (leb MAX_DROPPED (length ns)) f)
  where
    on : (leb MAX_DROPPED_PER_PEER (count (for_peer p) ns) ≡ true) ⊎ (leb MAX_DROPPED (length ns) ≡ true) → (leb MAX_DROPPED_PER_PEER (count (for_peer p) (ns ++ (n ∷ []))) || leb MAX_DROPPED (length (ns ++ (n ∷ [])))) ≡ true
    on (inl h) = or_left (leb MAX_DROPPED_PER_PEER (count (for_peer p) (ns ++ (n ∷ [])))) (leb MAX_DROPPED (length (ns ++ (n ∷ []))))
        (le-leb MAX_DROPPED_PER_PEER (count (for_peer p) (ns ++ (n ∷ []))) (omega (arith, leb-true MAX_DROPPED_PER_PEER (count (for_peer p) ns) h, count-append (for_peer p) ns (n ∷ []))))
    on (inr h) = or_right (leb MAX_DROPPED_PER_PEER (count (for_peer p) (ns ++ (n ∷ [])))) (leb MAX_DROPPED (length (ns ++ (n ∷ []))))
        (le-leb MAX_DROPPED (length (ns ++ (n ∷ []))) (omega (arith, leb-true MAX_DROPPED (length ns) h, length-append ns (n ∷ []))))

pub grows-note_one : (p : ℕ) (h : Ihave) (r : Run) → Grows r (note_one p h r)
unfolding note_one record_also
grows-note_one p h r =
    walk-if Grows (not (record_full p r.state.dropped) && holds h.id r.state.cache && not (any (notes p h.id) r.state.dropped))
    (record { queue = λ f h. h; dropped = λ f h. any_left f r.state.dropped _ h; actions = λ f h. h; full = λ q f. full-more q r.state.dropped _ f; cached = λ id v h. h })
    (grows-refl r)

pub grows-note_each : (p : ℕ) (hs : List Ihave) (r : Run) → Grows r (note_each p hs r)
unfolding note_each
grows-note_each p [] r = grows-refl r
grows-note_each p (h ∷ hs) r = grows-trans r (note_one p h r) _ (grows-note_one p h r) (grows-note_each p hs (note_one p h r))

pub grows-schedule_announce_dropped : (r : Run) → Grows r (schedule_announce_dropped r)
unfolding schedule_announce_dropped act
grows-schedule_announce_dropped r =
    walk-if Grows (is_empty r.state.dropped || r.state.timers.announce) (grows-refl r)
    (record { queue = λ f h. h; dropped = λ f h. h; actions = λ f h. any_left f r.actions _ h; full = λ p h. h; cached = λ id v h. h })

pub grows-schedule_dispatch : (r : Run) → Grows r (schedule_dispatch r)
unfolding schedule_dispatch act
grows-schedule_dispatch r =
    walk-if Grows r.state.timers.dispatch (grows-refl r)
    (record { queue = λ f h. h; dropped = λ f h. h; actions = λ f h. any_left f r.actions _ h; full = λ p h. h; cached = λ id v h. h })

pub grows-note_dropped : (p : ℕ) (hs : List Ihave) (r : Run) → Grows r (note_dropped p hs r)
unfolding note_dropped
grows-note_dropped p hs r =
    walk-if Grows (is_neighbour p r.state.links) (grows-trans r (note_each p hs r) _ (grows-note_each p hs r) (grows-schedule_announce_dropped (note_each p hs r))) (grows-refl r)

pub grows-lazy_push : (id round sender : ℕ) (r : Run) → Grows r (lazy_push id round sender r)
unfolding lazy_push
grows-lazy_push id round sender r =
    grows-trans r _ _ (record { queue = λ f h. any_left f r.state.queue _ h; dropped = λ f h. h; actions = λ f h. h; full = λ p h. h; cached = λ id v h. h }) (grows-schedule_dispatch _)

grows-schedule_graft : (id : ℕ) (r : Run) → Grows r (schedule_graft id r)
unfolding schedule_graft act
grows-schedule_graft id r =
    walk-if Grows (member id r.state.timers.graft) (grows-refl r)
    (record { queue = λ f h. h; dropped = λ f h. h; actions = λ f h. any_left f r.actions _ h; full = λ p h. h; cached = λ id v h. h })

grows-first : (id : ℕ) (h : Hop) (o : Option Grafts) (r : Run) → Grows r (with_state (with_first id h o r.state) r)
unfolding with_first
grows-first id h None r = alike refl refl refl refl
grows-first id h (Some g) r = alike refl refl refl refl

grows-kept : (id p : ℕ) (o : Option Grafts) (r : Run) → Grows r (with_state (with_kept id p o r.state) r)
unfolding with_kept
grows-kept id p None r = alike refl refl refl refl
grows-kept id p (Some g) r = alike refl refl refl refl

lookup-expire : {A : Type 0} (id now : ℕ) (v : Timed A) (c : Cache A) → lookup id (expire_until now c).entries ≡ Some v → lookup id c.entries ≡ Some v
unfolding expire_until
lookup-expire id now v c h = on (lookup-pop_all id (due now c.expiry) c.entries)
  where
    on : (lookup id (pop_all (due now c.expiry) c.entries) ≡ lookup id c.entries) ⊎ (lookup id (pop_all (due now c.expiry) c.entries) ≡ None) → lookup id c.entries ≡ Some v
    on (inl e) = rw e at h
    on (inr e) = let z : false ≡ true = cc in true≢ z

grows-evict : (now : ℕ) (r : Run) → Grows r (on_evict_cache_timer now r)
unfolding on_evict_cache_timer evict act
grows-evict now r = record {
  queue = λ f h. h;
  dropped = λ f h. h;
  actions = λ f h. any_left f (r.actions ++ map (λ id. Forgotten id) (expired_keys now r.state.cache)) _ (any_left f r.actions _ h);
  full = λ p h. h;
  cached = λ id v h. lookup-expire id now v r.state.cache h;
}

pub grows-sending : Sending Grows
grows-sending = record { stays = grows-refl; follows = grows-trans; sends = grows-send; notes = grows-note_dropped }

pub grows-steps : Steps Grows
unfolding update_links mark_received set_first set_kept forget_missing unmark
grows-steps = record {
  sending = grows-sending;
  schedules = λ d t r. grows-act (Scheduled d t) r;
  queues = grows-lazy_push;
  marks_eager = λ p r. alike refl refl refl refl;
  marks_lazy = λ p r. alike refl refl refl refl;
  receives = λ now id r. alike refl refl refl refl;
  sets_first = λ id sender round r. grows-first id _ _ r;
  keeps = λ id p r. grows-kept id p _ r;
  forgets = λ id r. alike refl refl refl refl;
  counts = λ c r. alike refl refl refl refl;
  schedules_graft = grows-schedule_graft;
  unmarks = λ id r. alike refl refl refl refl;
  evicts = grows-evict;
  begins = λ r. alike refl refl refl refl;
}

pub grows-announces : (id : ℕ) (h : Hop) (r : Run) → Grows r (announce id h r)
unfolding announce
grows-announces id h r = alike refl refl refl refl

pub grows-leaves : (id : ℕ) (hs : List Hop) (r : Run) → Grows r (leave_announcers id hs r)
unfolding leave_announcers
grows-leaves id hs r = alike refl refl refl refl

pub grows-grafts : (now id : ℕ) (h : Hop) (r : Run) → Grows r (note_graft now id h r)
unfolding note_graft
grows-grafts now id h r = alike refl refl refl refl

-- an identifier that a run has for a peer

pub data Got (p id : ℕ) (r : Run) : Type 0 where
  went_out : any (sends p (carries id) was_taken) r.actions ≡ true → Got p id r
  came_back : any (sends p (carries id) was_handed_back) r.actions ≡ true → record_full p r.state.dropped ≡ true → Got p id r
  in_queue : any (notes p id) r.state.queue ≡ true → Got p id r
  in_record : any (notes p id) r.state.dropped ≡ true → Got p id r

pub got-grows : {p id : ℕ} {r r' : Run} → Grows r r' → Got p id r → Got p id r'
got-grows {p} {id} g (went_out h) = went_out (g.actions (sends p (carries id) was_taken) h)
got-grows {p} {id} g (came_back h k) = came_back (g.actions (sends p (carries id) was_handed_back) h) (g.full p k)
got-grows {p} {id} g (in_queue h) = in_queue (g.queue (notes p id) h)
got-grows {p} {id} g (in_record h) = in_record (g.dropped (notes p id) h)

-- at the end of a call, of an identifier that is cached then
pub got-settled : (p id : ℕ) (e : Event) (r : Run) → holds id r.state.cache ≡ true → Got p id r → Settled p id (accept e r) r.state
unfolding sent by_action met_full left_out
got-settled p id e r held (went_out h) = was_sent h
got-settled p id e r held (came_back h k) = cases (any (notes p id) r.state.dropped) (λ q. recorded_now q) (λ q. was_full (rw (h, held, q, k)))
got-settled p id e r held (in_queue h) = queued_now h
got-settled p id e r held (in_record h) = recorded_now h

pub stands-got : (p id : ℕ) (r : Run) → Stands p id r.state → Got p id r
stands-got p id r (inl h) = in_queue h
stands-got p id r (inr h) = in_record h
