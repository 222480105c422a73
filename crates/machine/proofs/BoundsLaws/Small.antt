-- What bounds the actions of a step: the links, the queue and the contents of the state are within the specification's ceilings, also once a first event has evicted.
-- Assumes nothing.
use Rattle.machine.proofs.Words.{ℕ, ◌≤◌, ◌≡◌, Bool, true, false, not, ◌&&◌, List, [], ◌∷◌, arith, eqb, ltb, length, if◌then◌else◌, member, cases, Mark, Links, is_eager, State, Cached, with_init, with_received, with_grafted, with_cache, Sound, Head}
use Rattle.block.specs.View.{state_of}
use Rattle.storage.specs.Lists.Base.{sum}
use Rattle.storage.specs.Lists.Map.{Map, lookup}
use Rattle.storage.proofs.ListsLaws.ListLaws.{length-filter, count-length}
use Rattle.time_cache.specs.TimeCache.{Timed, value_of, get, later_cache}
use Rattle.protocol.specs.Links.{peers_marked, eager_peers}
use Rattle.protocol.specs.Push.{eager_targets}
use Rattle.decide.specs.Settled.{settled}
use Rattle.decide.proofs.SizesAfter.{content_length}
use Rattle.block.specs.Sound.{held}
use Rattle.block.proofs.LinkLaws.{count-links}
use Rattle.block.proofs.NoteLaws.{count-queue}
use Rattle.block.proofs.CachesLaws.CachedLaws.{count-cached-rows}
use Rattle.machine.proofs.BoundsLaws.Light.{sum-filter}

-- of links, queue, contents, and the expiry entries of the message cache
pub record Small (s : State) : Type 0 where
  pub links : length s.links ≤ 32
  pub queue : length s.queue ≤ 8192
  pub cached : held s.cache.entries ≤ 1048576
  pub rows : length s.cache.expiry ≤ 1024

pub small-block : (h : Head) (block : List ℕ) → Sound h block → Small (state_of h block)
small-block h block sound = record {
  links = omega (arith, count-links h block, sound.fit.within.links, sound.fit.ceilings.N);
  queue = omega (arith, count-queue h block sound, sound.fit.within.queued, sound.fit.ceilings.Q);
  cached = omega (arith, used, sound.fit.within.contents, sound.fit.ceilings.B);
  rows = omega (arith, count-cached-rows h block sound.fit, sound.fit.within.cached_rows, sound.fit.ceilings.C);
}
  where
    used : held (state_of h block).cache.entries ≡ h.live.contents
    used = unfold state_of in sound.laid.used

pub small-settled : (now : ℕ) (s : State) → Small s → Small (settled now s)
unfolding settled later_cache
small-settled now s small = by s.init
  where
    by : (b : Bool) → Small (if b then s else with_init true (with_grafted (later_cache now s.grafted) (with_received (later_cache now s.received) (with_cache (later_cache now s.cache) s))))
    by true = small
    by false = record {
      links = small.links;
      queue = small.queue;
      cached = omega (arith, small.cached, sum-filter (λ e. length e.value.value.content) (λ e. ltb now e.value.expires) s.cache.entries);
      rows = omega (arith, small.rows, length-filter (λ x. ltb now x.time) s.cache.expiry, count-length (λ x. ltb now x.time) s.cache.expiry);
    }

-- a cached content is one of the contents
found-few : (id : ℕ) (m : Map (Timed Cached)) → content_length (value_of (lookup id m)) ≤ held m
unfolding content_length value_of lookup sum
found-few id [] = omega arith
found-few id (e ∷ m) = cases (eqb id e.key) (λ q. rw q (omega arith)) (λ q. rw q (omega (arith, found-few id m)))

pub cached-few : (id : ℕ) (s : State) → Small s → content_length (get id s.cache) ≤ 1048576
unfolding get
cached-few id s small = omega (arith, found-few id s.cache.entries, small.cached)

-- there are no more eager peers than links
marked-few : (f : Mark → Bool) (l : Links) → length (peers_marked f l) ≤ length l
unfolding peers_marked
marked-few f [] = omega arith
marked-few f (e ∷ l) = cases (f e.value) (λ q. rw q (omega (arith, marked-few f l))) (λ q. rw q (omega (arith, marked-few f l)))

pub targets-few : (sender : ℕ) (skip : List ℕ) (s : State) → Small s → length (eager_targets sender skip s) ≤ 32
unfolding eager_targets eager_peers
targets-few sender skip s small =
    let keep : ℕ → Bool = λ p. not (eqb p s.settings.me) && not (eqb p sender) && not (member p skip) in
    let ps : List ℕ = peers_marked is_eager s.links in
    omega (arith, length-filter keep ps, count-length keep ps, marked-few is_eager s.links, small.links)
