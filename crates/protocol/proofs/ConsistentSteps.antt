-- Each step keeps the settings, the limits, and what `whole` asks apart from them.
use Rattle.std.proofs.Common.{ℕ, ◌≡◌, refl, ◌∙◌, Bool, true, false, not, ◌&&◌, ◌||◌, List, [], ◌∷◌, eqb, if◌then◌else◌, Option, Some, None}
use borrow.Author.Tests.{not-true}
use Rattle.storage.specs.Lists.Base.{is_empty, all, any, filter, ascending, member}
use Rattle.storage.specs.Lists.Map.{Map, keys}
use Rattle.time_cache.specs.TimeCache.{Cache, get, holds, replace, expire_until, later_cache, Timely}
use Rattle.protocol.specs.Links.{eager, lazy, Links, is_neighbour, lazy_peers, is_lazy, add_eager, add_lazy}
use Rattle.postcard.specs.Message.{Ihave, Message, Action, Scheduled}
use Rattle.protocol.specs.State.{State, Counts, Note, Hop, Grafts, Cached, with_init, with_queue}
use Rattle.protocol.specs.Run.{Run, with_state, with_counts, act, send}
use Rattle.protocol.specs.Push.{notes, record_full, record_also, note_one, note_each, note_dropped, note_for, schedule_dispatch, schedule_announce_dropped, lazy_push}
use Rattle.protocol.specs.Gossips.{mark_received, cache_at, with_first, set_first, forget_missing, update_links, with_kept, set_kept}
use Rattle.protocol.specs.Control.{schedule_graft, unmark}
use Rattle.protocol.specs.Ticks.{evict, on_evict_cache_timer}
use Rattle.protocol.specs.Whole.{announcers_whole, grafts_whole, noted_once}
use Rattle.protocol.specs.Consistent.{Within, Flagged, Core, CoreOf, Consistent, by_neighbour}
use Rattle.storage.proofs.ListsLaws.MapLaws.{and_left, and_right, all_cons, ascending-remove}
use Rattle.storage.proofs.ListsLaws.Lists.{or_right}
use Rattle.storage.proofs.ListsLaws.ListLaws.{all_append, all_filter, all-remove-entry}
use Rattle.protocol.proofs.Walk.{Sending, Steps, walk-if}
use Rattle.protocol.proofs.RecordOnly.{only-note_each, only-note_one, only-schedule}
use Rattle.time_cache.proofs.Timely.{timely-put, timely-replace, timely-expire, expire-is-filter}
use Rattle.protocol.proofs.ConsistentTables.{Wider, wider-mark, ascending-mark, wider-notes, wider-announcers, wider-grafts, marked-near, near-note_for, noted_more, ascending-insert_key, ascending-remove_key, grafted-get, grafts-replace}
use Rattle.protocol.proofs.RecordBounds.{within_more}

-- the relation between a run before and a run after
pub record Kept (r r' : Run) : Type 0 where
  pub settings : r'.state.settings ≡ r.state.settings
  pub limits : r'.state.limits ≡ r.state.limits
  pub consistent : Consistent r.state → Consistent r'.state

pub kept_refl : (r : Run) → Kept r r
kept_refl r = record { settings = refl; limits = refl; consistent = λ h. h }

pub kept_trans : (a b c : Run) → Kept a b → Kept b c → Kept a c
kept_trans a b c x y = record { settings = y.settings ∙ x.settings; limits = y.limits ∙ x.limits; consistent = λ h. y.consistent (x.consistent h) }

infixr 4 ◌⨾◌
◌⨾◌ : {a b c : Run} → Kept a b → Kept b c → Kept a c
k ⨾ l = kept_trans _ _ _ k l

-- by the two values of a test
pub by-test : (P : Run → Type 0) (b : Bool) (x y : Run) → (b ≡ true → P x) → (b ≡ false → P y) → P (if b then x else y)
by-test P true x y f g = f refl
by-test P false x y f g = g refl

-- one part changed

pub core-links : (l : Links) (s : State) → ascending (keys l) ≡ true → Wider s.links l → CoreOf s → Core l s.queue s.dropped s.missing s.received s.grafted s.cache s.timers.graft
core-links l s u w c = record {
  links_up = u;
  missing_up = c.missing_up;
  timers_up = c.timers_up;
  received_on = c.received_on;
  grafted_on = c.grafted_on;
  cache_on = c.cache_on;
  queued = wider-notes s.links l w s.queue c.queued;
  recorded = wider-notes s.links l w s.dropped c.recorded;
  announcing = wider-announcers s.links l w s.missing c.announcing;
  grafting = wider-grafts s.links l w s.grafted.entries c.grafting;
  noted = c.noted;
  within = c.within;
}

pub core-queue : (q : List Note) (s : State) → all (by_neighbour s.links) q ≡ true → CoreOf s → Core s.links q s.dropped s.missing s.received s.grafted s.cache s.timers.graft
core-queue q s a c = record { links_up = c.links_up; missing_up = c.missing_up; timers_up = c.timers_up; received_on = c.received_on; grafted_on = c.grafted_on; cache_on = c.cache_on; queued = a; recorded = c.recorded; announcing = c.announcing; grafting = c.grafting; noted = c.noted; within = c.within }

pub core-dropped : (d : List Note) (s : State) → all (by_neighbour s.links) d ≡ true → noted_once d ≡ true → Within d → CoreOf s → Core s.links s.queue d s.missing s.received s.grafted s.cache s.timers.graft
core-dropped d s a n w c = record { links_up = c.links_up; missing_up = c.missing_up; timers_up = c.timers_up; received_on = c.received_on; grafted_on = c.grafted_on; cache_on = c.cache_on; queued = c.queued; recorded = a; announcing = c.announcing; grafting = c.grafting; noted = n; within = w }

pub core-missing : (m : Map (List Hop)) (s : State) → ascending (keys m) ≡ true → all (announcers_whole s.links) m ≡ true → CoreOf s → Core s.links s.queue s.dropped m s.received s.grafted s.cache s.timers.graft
core-missing m s u a c = record { links_up = c.links_up; missing_up = u; timers_up = c.timers_up; received_on = c.received_on; grafted_on = c.grafted_on; cache_on = c.cache_on; queued = c.queued; recorded = c.recorded; announcing = a; grafting = c.grafting; noted = c.noted; within = c.within }

pub core-received : (x : Cache (Unit {0})) (s : State) → Timely x → CoreOf s → Core s.links s.queue s.dropped s.missing x s.grafted s.cache s.timers.graft
core-received x s t c = record { links_up = c.links_up; missing_up = c.missing_up; timers_up = c.timers_up; received_on = t; grafted_on = c.grafted_on; cache_on = c.cache_on; queued = c.queued; recorded = c.recorded; announcing = c.announcing; grafting = c.grafting; noted = c.noted; within = c.within }

pub core-cache : (x : Cache Cached) (s : State) → Timely x → CoreOf s → Core s.links s.queue s.dropped s.missing s.received s.grafted x s.timers.graft
core-cache x s t c = record { links_up = c.links_up; missing_up = c.missing_up; timers_up = c.timers_up; received_on = c.received_on; grafted_on = c.grafted_on; cache_on = t; queued = c.queued; recorded = c.recorded; announcing = c.announcing; grafting = c.grafting; noted = c.noted; within = c.within }

pub core-grafted : (x : Cache Grafts) (s : State) → Timely x → all (grafts_whole s.links) x.entries ≡ true → CoreOf s → Core s.links s.queue s.dropped s.missing s.received x s.cache s.timers.graft
core-grafted x s t g c = record { links_up = c.links_up; missing_up = c.missing_up; timers_up = c.timers_up; received_on = c.received_on; grafted_on = t; cache_on = c.cache_on; queued = c.queued; recorded = c.recorded; announcing = c.announcing; grafting = g; noted = c.noted; within = c.within }

pub core-timers : (x : List ℕ) (s : State) → ascending x ≡ true → CoreOf s → Core s.links s.queue s.dropped s.missing s.received s.grafted s.cache x
core-timers x s u c = record { links_up = c.links_up; missing_up = c.missing_up; timers_up = u; received_on = c.received_on; grafted_on = c.grafted_on; cache_on = c.cache_on; queued = c.queued; recorded = c.recorded; announcing = c.announcing; grafting = c.grafting; noted = c.noted; within = c.within }

-- the record

-- identifiers are noted for a neighbour
record Noted (p : ℕ) (r r' : Run) : Type 0 where
  core : is_neighbour p r.state.links ≡ true → CoreOf r.state → CoreOf r'.state

noted_one : (p : ℕ) (h : Ihave) (r : Run) → Noted p r (note_one p h r)
unfolding note_one record_also
noted_one p h r =
    by-test (Noted p r) (not (record_full p r.state.dropped) && holds h.id r.state.cache && not (any (notes p h.id) r.state.dropped)) _ _
    (λ t. record {
      core = λ n c. core-dropped _ r.state
          (all_append (by_neighbour r.state.links) r.state.dropped _ c.recorded (all_cons (by_neighbour r.state.links) _ [] n all_nil))
          (noted_more r.state.dropped _ c.noted (not-true (any (notes p h.id) r.state.dropped) (and_right (not (record_full p r.state.dropped) && holds h.id r.state.cache) (not (any (notes p h.id) r.state.dropped)) t)))
          (within_more _ r.state.dropped (not_full t) c.within) c;
    })
    (λ t. record { core = λ n c. c })
  where
    all_nil : all (by_neighbour r.state.links) [] ≡ true
    all_nil = unfold all in refl

    not_full : (not (record_full p r.state.dropped) && holds h.id r.state.cache && not (any (notes p h.id) r.state.dropped)) ≡ true → record_full p r.state.dropped ≡ false
    not_full t = not-true (record_full p r.state.dropped) (and_left (not (record_full p r.state.dropped)) (holds h.id r.state.cache) (and_left (not (record_full p r.state.dropped) && holds h.id r.state.cache) (not (any (notes p h.id) r.state.dropped)) t))

noted-each : (p : ℕ) (hs : List Ihave) (r : Run) → Noted p r (note_each p hs r)
unfolding note_each
noted-each p [] r = record { core = λ n c. c }
noted-each p (h ∷ hs) r =
    let a = noted_one p h r in
    let b = noted-each p hs (note_one p h r) in
    record { core = λ n c. b.core (rw (only-note_one p h r).links n) (a.core n c) }

pub announce-consistent : (r : Run) → CoreOf r.state → Flagged r.state.queue r.state.timers.dispatch → Consistent (schedule_announce_dropped r).state
unfolding schedule_announce_dropped act
announce-consistent r c q =
    by-test (λ x. Consistent x.state) (is_empty r.state.dropped || r.state.timers.announce) _ _
    (λ t. record { core = c; queue_flag = q; record_flag = t })
    (λ t. record { core = c; queue_flag = q; record_flag = or_right (is_empty r.state.dropped) true refl })

pub kept-note_dropped : (p : ℕ) (hs : List Ihave) (r : Run) → Kept r (note_dropped p hs r)
unfolding note_dropped
kept-note_dropped p hs r =
    by-test (Kept r) (is_neighbour p r.state.links) _ _
    (λ n. let a = only-note_each p hs r in
    let b = only-schedule (note_each p hs r) in
    record {
      settings = b.settings ∙ a.settings;
      limits = b.limits ∙ a.limits;
      consistent = λ x. announce-consistent (note_each p hs r) ((noted-each p hs r).core n x.core) (rw (a.queue, a.dispatch_scheduled) x.queue_flag);
    })
    (λ n. kept_refl r)

pub kept_send : (p : ℕ) (m : Message) (r : Run) → Kept r (send p m r)
unfolding send
kept_send p m r = record { settings = refl; limits = refl; consistent = λ x. x }

pub kept-act : (a : Action) (r : Run) → Kept r (act a r)
unfolding act
kept-act a r = record { settings = refl; limits = refl; consistent = λ x. x }

pub kept-sending : Sending Kept
kept-sending = record { stays = kept_refl; follows = kept_trans; sends = kept_send; notes = kept-note_dropped }

-- the queue

-- a dispatch timer is scheduled, so any queue may stand
pub dispatch-consistent : (r : Run) → CoreOf r.state → Flagged r.state.dropped r.state.timers.announce → Consistent (schedule_dispatch r).state
unfolding schedule_dispatch act
dispatch-consistent r c d =
    by-test (λ x. Consistent x.state) r.state.timers.dispatch _ _
    (λ t. record { core = c; queue_flag = or_right (is_empty r.state.queue) r.state.timers.dispatch t; record_flag = d })
    (λ t. record { core = c; queue_flag = or_right (is_empty r.state.queue) true refl; record_flag = d })

pub dispatch-settings : (r : Run) → (schedule_dispatch r).state.settings ≡ r.state.settings
unfolding schedule_dispatch act
dispatch-settings r = by-test (λ x. x.state.settings ≡ r.state.settings) r.state.timers.dispatch _ _ (λ t. refl) (λ t. refl)

pub dispatch-limits : (r : Run) → (schedule_dispatch r).state.limits ≡ r.state.limits
unfolding schedule_dispatch act
dispatch-limits r = by-test (λ x. x.state.limits ≡ r.state.limits) r.state.timers.dispatch _ _ (λ t. refl) (λ t. refl)

pub kept-queued : (q : List Note) (r : Run) → (Consistent r.state → all (by_neighbour r.state.links) q ≡ true) → Kept r (schedule_dispatch (with_state (with_queue q r.state) r))
kept-queued q r a = record {
  settings = dispatch-settings (with_state (with_queue q r.state) r);
  limits = dispatch-limits (with_state (with_queue q r.state) r);
  consistent = λ x. dispatch-consistent (with_state (with_queue q r.state) r) (core-queue q r.state (a x) x.core) x.record_flag;
}

pub kept-lazy_push : (id round sender : ℕ) (r : Run) → Kept r (lazy_push id round sender r)
unfolding lazy_push
kept-lazy_push id round sender r =
    kept-queued _ r (λ x. all_append (by_neighbour r.state.links) r.state.queue _ x.core.queued new)
  where
    new : all (by_neighbour r.state.links) (note_for (filter (λ p. not (eqb p sender)) (lazy_peers r.state.links)) id round) ≡ true
    new = near-note_for r.state.links _ id round (all_filter (λ p. is_neighbour p r.state.links) (λ p. not (eqb p sender)) (lazy_peers r.state.links) lazies)
      where
        lazies : all (λ p. is_neighbour p r.state.links) (lazy_peers r.state.links) ≡ true
        lazies = unfold lazy_peers in (marked-near is_lazy r.state.links)

-- small steps

pub kept-links : (f : Links → Links) → ((l : Links) → ascending (keys l) ≡ true → ascending (keys (f l)) ≡ true) → ((l : Links) → Wider l (f l)) → (r : Run) → Kept r (update_links f r)
unfolding update_links
kept-links f u w r = record {
  settings = refl;
  limits = refl;
  consistent = λ x. record { core = core-links (f r.state.links) r.state (u r.state.links x.core.links_up) (w r.state.links) x.core; queue_flag = x.queue_flag; record_flag = x.record_flag };
}

pub kept-eager : (p : ℕ) (r : Run) → Kept r (update_links (add_eager p) r)
kept-eager p r = kept-links (add_eager p) (λ l h. unfold add_eager in (ascending-mark p eager l h)) (λ l. unfold add_eager in (wider-mark p eager l)) r

pub kept-lazy : (p : ℕ) (r : Run) → Kept r (update_links (add_lazy p) r)
kept-lazy p r = kept-links (add_lazy p) (λ l h. unfold add_lazy in (ascending-mark p lazy l h)) (λ l. unfold add_lazy in (wider-mark p lazy l)) r

pub kept-received : (now id : ℕ) (r : Run) → Kept r (mark_received now id r)
unfolding mark_received
kept-received now id r = record {
  settings = refl;
  limits = refl;
  consistent = λ x. record { core = core-received _ r.state (timely-put id tt _ r.state.received x.core.received_on) x.core; queue_flag = x.queue_flag; record_flag = x.record_flag };
}

pub kept-cache_at : (now id : ℕ) (content : List ℕ) (round : ℕ) (r : Run) → Kept r (cache_at now id content round r)
unfolding cache_at
kept-cache_at now id content round r = record {
  settings = refl;
  limits = refl;
  consistent = λ x. record { core = core-cache _ r.state (timely-put id _ _ r.state.cache x.core.cache_on) x.core; queue_flag = x.queue_flag; record_flag = x.record_flag };
}

-- a value of the grafted table is replaced, its peers kept
replaced : (id : ℕ) (g v : Grafts) (r : Run) → get id r.state.grafted ≡ Some g → v.peers ≡ g.peers → Consistent r.state →
    Core r.state.links r.state.queue r.state.dropped r.state.missing r.state.received (replace id v r.state.grafted) r.state.cache r.state.timers.graft
replaced id g v r h e x =
    core-grafted (replace id v r.state.grafted) r.state (timely-replace id v r.state.grafted x.core.grafted_on)
    (grafts-replace r.state.links id v r.state.grafted (rw e (grafted-get r.state.links id g r.state.grafted x.core.grafting h)) x.core.grafting) x.core

pub kept-first : (id : ℕ) (h : Hop) (o : Option Grafts) (r : Run) → get id r.state.grafted ≡ o → Kept r (with_state (with_first id h o r.state) r)
unfolding with_first
kept-first id h None r e = kept_refl r
kept-first id h (Some g) r e = record {
  settings = refl;
  limits = refl;
  consistent = λ x. record { core = replaced id g (record { first = Some h; kept = g.kept; peers = g.peers }) r e refl x; queue_flag = x.queue_flag; record_flag = x.record_flag };
}

pub kept-set_first : (id sender round : ℕ) (r : Run) → Kept r (set_first id sender round r)
unfolding set_first
kept-set_first id sender round r = kept-first id _ (get id r.state.grafted) r refl

pub kept-kept : (id p : ℕ) (o : Option Grafts) (r : Run) → get id r.state.grafted ≡ o → Kept r (with_state (with_kept id p o r.state) r)
unfolding with_kept
kept-kept id p None r e = kept_refl r
kept-kept id p (Some g) r e = record {
  settings = refl;
  limits = refl;
  consistent = λ x. record { core = replaced id g (record { first = g.first; kept = Some p; peers = g.peers }) r e refl x; queue_flag = x.queue_flag; record_flag = x.record_flag };
}

pub kept-keep : (id p : ℕ) (r : Run) → Kept r (set_kept id p r)
unfolding set_kept
kept-keep id p r = kept-kept id p (get id r.state.grafted) r refl

pub kept-forget : (id : ℕ) (r : Run) → Kept r (forget_missing id r)
unfolding forget_missing
kept-forget id r = record {
  settings = refl;
  limits = refl;
  consistent = λ x.
      let c = core-timers _ r.state (ascending-remove_key id r.state.timers.graft x.core.timers_up) x.core in
      let m = core-missing _ r.state (ascending-remove id r.state.missing x.core.missing_up) (all-remove-entry (announcers_whole r.state.links) id r.state.missing x.core.announcing) x.core in
      record {
        core = record { links_up = c.links_up; missing_up = m.missing_up; timers_up = c.timers_up; received_on = c.received_on; grafted_on = c.grafted_on; cache_on = c.cache_on; queued = c.queued; recorded = c.recorded; announcing = m.announcing; grafting = c.grafting; noted = c.noted; within = c.within };
        queue_flag = x.queue_flag;
        record_flag = x.record_flag;
      };
}

pub kept-counts : (c : Counts) (r : Run) → Kept r (with_counts c r)
kept-counts c r = record { settings = refl; limits = refl; consistent = λ x. x }

pub kept-schedule_graft : (id : ℕ) (r : Run) → Kept r (schedule_graft id r)
unfolding schedule_graft act
kept-schedule_graft id r =
    walk-if Kept (member id r.state.timers.graft) (kept_refl r)
    (record {
      settings = refl;
      limits = refl;
      consistent = λ x. record { core = core-timers _ r.state (ascending-insert_key id r.state.timers.graft x.core.timers_up) x.core; queue_flag = x.queue_flag; record_flag = x.record_flag };
    })

pub kept-unmark : (id : ℕ) (r : Run) → Kept r (unmark id r)
unfolding unmark
kept-unmark id r = record {
  settings = refl;
  limits = refl;
  consistent = λ x. record { core = core-timers _ r.state (ascending-remove_key id r.state.timers.graft x.core.timers_up) x.core; queue_flag = x.queue_flag; record_flag = x.record_flag };
}

grafts-later : (l : Links) (now : ℕ) (c : Cache Grafts) → Timely c → all (grafts_whole l) c.entries ≡ true → all (grafts_whole l) (expire_until now c).entries ≡ true
grafts-later l now c t a = rw (expire-is-filter now c t) (unfold later_cache in (all_filter (grafts_whole l) _ c.entries a))

pub core-evict : (now : ℕ) (s : State) → CoreOf s → CoreOf (evict now s)
unfolding evict
core-evict now s c = record {
  links_up = c.links_up;
  missing_up = c.missing_up;
  timers_up = c.timers_up;
  received_on = timely-expire now s.received c.received_on;
  grafted_on = timely-expire now s.grafted c.grafted_on;
  cache_on = timely-expire now s.cache c.cache_on;
  queued = c.queued;
  recorded = c.recorded;
  announcing = c.announcing;
  grafting = grafts-later s.links now s.grafted c.grafted_on c.grafting;
  noted = c.noted;
  within = c.within;
}

pub kept-evict : (now : ℕ) (r : Run) → Kept r (on_evict_cache_timer now r)
unfolding on_evict_cache_timer evict act
kept-evict now r = record {
  settings = refl;
  limits = refl;
  consistent = λ x. record { core = core-evict now r.state x.core; queue_flag = x.queue_flag; record_flag = x.record_flag };
}

pub kept-begins : (r : Run) → Kept r (with_state (with_init true r.state) r)
kept-begins r = record { settings = refl; limits = refl; consistent = λ x. record { core = x.core; queue_flag = x.queue_flag; record_flag = x.record_flag } }

pub kept-steps : Steps Kept
kept-steps = record {
  sending = kept-sending;
  schedules = λ d t r. kept-act (Scheduled d t) r;
  queues = kept-lazy_push;
  marks_eager = kept-eager;
  marks_lazy = kept-lazy;
  receives = kept-received;
  sets_first = kept-set_first;
  keeps = kept-keep;
  forgets = kept-forget;
  counts = λ c r. kept-counts c r;
  schedules_graft = kept-schedule_graft;
  unmarks = kept-unmark;
  evicts = kept-evict;
  begins = kept-begins;
}
