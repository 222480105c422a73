-- The message cache: its tables as the view reads them.
-- Assumes nothing.
use Rattle.block.proofs.Words.{◌≡◌, sym, ap, ◌∙◌, subst, List, ℕ, ◌≤◌, arith, lit<, length, Cache, expired_keys, cache_at, Lies, FitsOneMore, TimeBoundCache, expired-as, Limits, Cached}
use Rattle.time_cache.specs.Tables.{Sound as SoundCache, values_as}
use Rattle.block.specs.Layout.{table}
use Rattle.block.specs.View.{state_of, limits_of, cached_in, cached_of}
use Rattle.block.specs.Fit.{Fit}
use Rattle.block.specs.Sound.{Sound}
use Rattle.block.specs.declared.head.Head.{Head}
use Rattle.block.specs.TimeCaches.{cached_cache}
use Rattle.block.specs.Caches.InBlock.{InOrder}
use Rattle.block.specs.Caches.Standing.{StandsIn}
use Rattle.block.proofs.CachesLaws.CacheLaws.{as_value, cache-in, sound-in, count_entries, count-expiry}

module _ (h : Head) (xs : List ℕ) (fit : Fit h xs) where
  abbrev l : Limits
  l = limits_of h.limits

  abbrev n : ℕ
  n = h.live.cached

  abbrev m : ℕ
  m = h.live.cached_rows

  pub cached-lies : Lies (cached_cache h) xs
  cached-lies = record { entry_wide = omega arith; expiry_wide = omega arith; apart = omega arith; within = omega arith; few = omega arith }

  pub cached-room : FitsOneMore (cached_cache h) xs
  cached-room = record { entry_wide = omega arith; expiry_wide = omega arith; apart = omega arith; within = omega arith; few = omega arith }

  cached-as : values_as (as_value (cached_of (table (limits_of h.limits) 6 xs))) (cache_at (cached_cache h) xs) ≡ (state_of h xs).cache
  unfolding state_of cached_in
  cached-as = cache-in l 4 4 n 5 48 m xs (lit< tt) (omega arith) (lit< tt) (omega arith) (cached_of (table (limits_of h.limits) 6 xs))

  -- what an eviction removes
  pub cached-expired : (t : ℕ) → expired_keys t (cache_at (cached_cache h) xs) ≡ expired_keys t (state_of h xs).cache
  cached-expired t = sym (expired-as (as_value (cached_of (table (limits_of h.limits) 6 xs))) t (cache_at (cached_cache h) xs)) ∙ ap (expired_keys t) cached-as

  pub cached-expiry : (cache_at (cached_cache h) xs).expiry ≡ (state_of h xs).cache.expiry
  unfolding values_as
  cached-expiry = ap (λ (c : Cache Cached). c.expiry) cached-as

  pub cached-few : (cached_cache h).entries.len ≤ 512
  cached-few = omega arith

  pub count-cached : length (state_of h xs).cache.entries ≡ n
  unfolding state_of cached_in
  count-cached = count_entries l 4 4 n 5 48 m xs (lit< tt) (omega arith) (lit< tt) (omega arith) (cached_of (table (limits_of h.limits) 6 xs))

  pub count-cached-rows : length (state_of h xs).cache.expiry ≡ m
  unfolding state_of cached_in
  count-cached-rows = count-expiry l 4 4 n 5 48 m xs (lit< tt) (omega arith) (lit< tt) (omega arith) (cached_of (table (limits_of h.limits) 6 xs))

pub cached-sound : (h : Head) (xs : List ℕ) → Sound h xs → InOrder (state_of h xs).cache → SoundCache (cached_cache h) xs
unfolding state_of cached_in
cached-sound h xs sound o =
    sound-in (limits_of h.limits) 4 4 h.live.cached 5 48 h.live.cached_rows xs (lit< tt) (omega (arith, sound.fit)) (lit< tt) (omega (arith, sound.fit)) (cached_of (table (limits_of h.limits) 6 xs)) sound.laid.cached o

-- the tables hold the state's cache
pub cached_stands : (t : TimeBoundCache) (h : Head) (xs : List ℕ) → t ≡ cached_cache h → Sound h xs → StandsIn t xs (state_of h xs).cache
cached_stands t h xs e s =
    subst (λ (u : TimeBoundCache). StandsIn u xs (state_of h xs).cache) (sym e) (record { lies = cached-lies h xs s.fit; room = cached-room h xs s.fit; value = as_value (cached_of (table (limits_of h.limits) 6 xs)); same = cached-as h xs s.fit; sound = cached-sound h xs s })
