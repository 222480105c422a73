-- A time cache of the block, for any two tables: as the view reads it, in order, and after an insert or `expire_until`.
-- Assumes nothing.
use Rattle.block.proofs.Words.{◌≡◌, sym, ap, ◌∙◌, subst, List, map, ℕ, ◌+◌, ◌*◌, ◌≤◌, ◌<◌, arith, length, get_or, set, ascending, keys, part, rows, length-rows, part-put, length_part, Ref, ref_of, places, Below, Cache, expire_until, in_pop_order, holds, later_cache, expiry_row_of, expiry_of, ValueBytes, value_bytes, entry_of, cache_in, refs_at, rows_at, cache_at, named, OnlyTwo, TimeBoundCache, keys-named, values-read, keys-as, holds_as, put_as, expire-as, later-as, length-as, Limits}
use lib.ListN.{length-map}
use Rattle.storage.specs.Refs.Refs.{refs}
use Rattle.time_cache.specs.TimeCache.{put as put_in}
use Rattle.time_cache.specs.Tables.{expiry_rows, cache_of, values_as, Sound}
use Rattle.time_cache.proofs.LoanLaws.{halfway, length-halfway, only-second, two-wider}
use Rattle.block.specs.Layout.{sizes, place, tables, table, end}
use Rattle.block.proofs.Cut.{cut-part, within}
use Rattle.block.proofs.Tables.{rows-table, frame-whole}
use Rattle.block.specs.TimeCaches.{cache_from}
use Rattle.block.specs.Caches.InBlock.{InOrder}
use Rattle.block.specs.Caches.Standing.{StandsIn}

-- the bytes of an entry, read as a value
abbrev pub as_value : {A : Type 0} → (List ℕ → List ℕ → A) → ValueBytes → A
as_value value b = value b.own b.rest

module _ (l : Limits) (i s n j t m : ℕ) (xs : List ℕ) (hi : i < 15) (wi : n * s ≤ get_or (sizes l) i 0) (hj : j < 15) (wj : m * t ≤ get_or (sizes l) j 0) where
  abbrev c : TimeBoundCache
  c = cache_from l i s n j t m

  pub refs-in : refs_at c xs ≡ refs s n (table l i xs)
  unfolding refs
  refs-in = ap (map ref_of) (sym (rows-table l i s n xs hi wi))

  pub rows_in : rows_at c xs ≡ expiry_rows t m (table l j xs)
  unfolding expiry_rows
  rows_in = ap (map expiry_row_of) (sym (rows-table l j t m xs hj wj))

  module _ {A : Type 0} (value : List ℕ → List ℕ → A) where
    -- the cache of the view
    abbrev pub viewed : Cache A
    viewed = cache_in value s n (table l i xs) t m (table l j xs)

    pub cache-in : values_as (as_value value) (cache_at c xs) ≡ viewed
    cache-in = values-read value (refs_at c xs) (rows_at c xs) ∙ (λ k. cache_of value (refs-in k) (rows_in k))

    keys_in : keys (cache_at c xs).entries ≡ keys viewed.entries
    keys_in = sym (keys-as (as_value value) (cache_at c xs)) ∙ ap (λ (k : Cache A). keys k.entries) cache-in

    pub expiry-in : (cache_at c xs).expiry ≡ viewed.expiry
    unfolding values_as
    expiry-in = ap (λ (k : Cache A). k.expiry) cache-in

    -- what the functions of a time cache ask for, from the layout and the state
    pub sound-in : Below m (places (refs s n (table l i xs))) → InOrder viewed → Sound c xs
    sound-in b o = record {
      below = subst (λ (es : List Ref). Below m (places es)) (sym refs-in) b;
      up = ap ascending keys_in ∙ o.up;
      order = ap in_pop_order expiry-in ∙ o.order;
    }

    -- its numbers of rows
    pub count_entries : length viewed.entries ≡ n
    unfolding cache_of refs
    count_entries = length-map (refs s n (table l i xs)) (entry_of value (expiry_rows t m (table l j xs))) ∙ length-map (rows s n (table l i xs)) ref_of ∙ length-rows s n (table l i xs)

    pub count-expiry : length viewed.expiry ≡ m
    unfolding cache_of expiry_rows
    count-expiry = length-map (expiry_rows t m (table l j xs)) expiry_of ∙ length-map (rows t m (table l j xs)) expiry_row_of ∙ length-rows t m (table l j xs)

-- what changed in two tables alone, as tables
pub frame-pair : (l : Limits) (i j k g : ℕ) (xs ys : List ℕ) → i < 15 → j < 15 → place l i + get_or (sizes l) i 0 ≤ place l j → k ≤ get_or (sizes l) i 0 → g ≤ get_or (sizes l) j 0
    → end l ≤ length xs → length ys ≡ length xs → OnlyTwo (place l i) k (place l j) g xs ys
    → tables l ys ≡ set (set (tables l xs) j (table l j ys)) i (table l i ys)
frame-pair l i j k g xs ys hi hj h wk wg long e o =
    let p : ℕ = get_or (sizes l) i 0 in
    let q : ℕ = get_or (sizes l) j 0 in
    let w : place l j + q ≤ length xs = omega (arith, within (sizes l) j 0 q hj (omega arith)) in
    let two : OnlyTwo (place l i) p (place l j) q xs ys = two-wider (place l i) k (place l j) g xs ys (omega arith) (omega arith) e o p q wk wg h w in
    let zs : List ℕ = halfway (place l j) q xs ys in
    let lz : length zs ≡ length xs = length-halfway (place l i) p (place l j) q xs ys h w e two in
    let lq : length (part (place l j) q ys) ≡ q = length_part (place l j) q ys (omega arith) in
    let second : tables l zs ≡ set (tables l xs) j (part (place l j) q zs) = frame-whole l j xs zs hj long lz (only-second (place l i) p (place l j) q xs ys h w e two) in
    let same : part (place l j) q zs ≡ table l j ys = part-put (place l j) q (part (place l j) q ys) xs lq w ∙ sym (cut-part (sizes l) j ys hj) in
    frame-whole l i zs ys hi (omega arith) (e ∙ sym lz) two
    ∙ (λ a. set (second a) i (sym (cut-part (sizes l) i ys hi) a))
    ∙ (λ a. set (set (tables l xs) j (same a)) i (table l i ys))

-- after `expire_until`
module _ (l : Limits) (i s n j t m : ℕ) (xs ys : List ℕ) (hi : i < 15) (wi : n * s ≤ get_or (sizes l) i 0) (hj : j < 15) (wj : m * t ≤ get_or (sizes l) j 0)
    (n' m' : ℕ) (wi' : n' * s ≤ get_or (sizes l) i 0) (wj' : m' * t ≤ get_or (sizes l) j 0) {A : Type 0} (value : List ℕ → List ℕ → A) where
  pub expired-in : (instant : ℕ) → cache_at (cache_from l i s n' j t m') ys ≡ expire_until instant (cache_at (cache_from l i s n j t m) xs)
      → cache_in value s n' (table l i ys) t m' (table l j ys) ≡ expire_until instant (cache_in value s n (table l i xs) t m (table l j xs))
  expired-in instant e =
      sym (cache-in l i s n' j t m' ys hi wi' hj wj' value)
      ∙ ap (values_as (as_value value)) e
      ∙ expire-as (as_value value) instant (cache_at (cache_from l i s n j t m) xs)
      ∙ ap (expire_until instant) (cache-in l i s n j t m xs hi wi hj wj value)

  -- after an insert
  pub inserted-in : (k instant : ℕ) (v : ValueBytes) → cache_at (cache_from l i s n' j t m') ys ≡ put_in k v instant (cache_at (cache_from l i s n j t m) xs)
      → cache_in value s n' (table l i ys) t m' (table l j ys) ≡ put_in k (as_value value v) instant (cache_in value s n (table l i xs) t m (table l j xs))
  inserted-in k instant v e =
      sym (cache-in l i s n' j t m' ys hi wi' hj wj' value)
      ∙ ap (values_as (as_value value)) e
      ∙ put_as (as_value value) k v instant (cache_at (cache_from l i s n j t m) xs)
      ∙ ap (put_in k (as_value value v) instant) (cache-in l i s n j t m xs hi wi hj wj value)

-- what is read of the tables that a cache stands in
module _ {A : Type 0} (t : TimeBoundCache) (xs : List ℕ) (c : Cache A) (s : StandsIn t xs c) where
  pub keys_read : named (rows_at t xs) (refs_at t xs) ≡ keys c.entries
  keys_read = sym (keys-named value_bytes (refs_at t xs) (rows_at t xs)) ∙ sym (keys-as s.value (cache_at t xs)) ∙ ap (λ (d : Cache A). keys d.entries) s.same

  pub holds_read : (k : ℕ) → holds k (cache_at t xs) ≡ holds k c
  holds_read k = sym (holds_as s.value k (cache_at t xs)) ∙ ap (holds k) s.same

  -- what is later than an instant
  module _ (instant : ℕ) where
    later-read : values_as s.value (later_cache instant (cache_at t xs)) ≡ later_cache instant c
    later-read = later-as s.value instant (cache_at t xs) ∙ ap (later_cache instant) s.same

    pub holds_later : (k : ℕ) → holds k (later_cache instant (cache_at t xs)) ≡ holds k (later_cache instant c)
    holds_later k = sym (holds_as s.value k (later_cache instant (cache_at t xs))) ∙ ap (holds k) later-read

    pub entries_later : length (later_cache instant (cache_at t xs)).entries ≡ length (later_cache instant c).entries
    entries_later = sym (length-as s.value (later_cache instant (cache_at t xs))) ∙ ap (λ (d : Cache A). length d.entries) later-read

    pub rows_later : length (later_cache instant (cache_at t xs)).expiry ≡ length (later_cache instant c).expiry
    unfolding values_as
    rows_later = ap (λ (d : Cache A). length d.expiry) later-read
