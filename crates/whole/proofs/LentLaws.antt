-- A time cache of the block: its test is that of the tables, and its entries have their expiry entries by the layout.
-- Assumes nothing.
use Rattle.whole.proofs.Words.{◌≡◌, sym, ap, ◌∙◌, Bool, true, ◌&&◌, List, [], ◌∷◌, map, ℕ, ◌+◌, ◌-◌, ◌*◌, ◌≤◌, ◌<◌, length, take, drop, get_or, length-drop, take-take, all, ascending, rows, part-between, Ref, ref_of, places, ExpiryRow, expiry_row_of, cache_in, value_bytes, Limits, sizes, table, rows-table}
use Rattle.storage.specs.Lists.Map.{keys}
use Rattle.storage.specs.Rows.Part.{part}
use Rattle.storage.specs.Rows.Sorted.{key_of, keys as row_keys}
use Rattle.storage.specs.Refs.Refs.{refs}
use Rattle.time_cache.specs.TimeCache.{Cache, in_pop_order}
use Rattle.time_cache.specs.Tables.{expiry_rows, cache_of, sound}
use Rattle.time_cache.proofs.TableLaws.{keys-named}
use Rattle.time_cache.proofs.BlockLaws.{open-end}
use Rattle.block.specs.Layout.{place}
use Rattle.block.proofs.Cut.{cut-part}
use Rattle.whole.specs.Held.{all_below, places_name, all_lists}
use Rattle.block.specs.TimeCaches.{cache_from}
use Rattle.whole.specs.Parts.{cache_whole}
use Rattle.whole.proofs.Tests.{each}

-- how long a part without an end is
pub length-open : (a : ℕ) (xs : List ℕ) → length (take (length xs - a) (drop a xs)) ≡ length xs - a
length-open a xs = ap length (open-end a xs) ∙ length-drop a xs

module _ (l : Limits) (xs : List ℕ) where
  refs-table : (i s n : ℕ) → i < 15 → n * s ≤ get_or (sizes l) i 0 → refs s n (drop (place l i) xs) ≡ refs s n (table l i xs)
  unfolding refs
  refs-table i s n h w = ap (map ref_of) (sym (rows-table l i s n xs h w))

  rows-expiry : (j t m : ℕ) → j < 15 → m * t ≤ get_or (sizes l) j 0 → expiry_rows t m (drop (place l j) xs) ≡ expiry_rows t m (table l j xs)
  unfolding expiry_rows
  rows-expiry j t m h w = ap (map expiry_row_of) (sym (rows-table l j t m xs h w))

  -- a table that is lent from its start to the block's end
  pub rows-lent : (t s n a : ℕ) → t < 15 → n * s ≤ get_or (sizes l) t 0 → a ≡ place l t → rows s n (take (length xs - a) (drop a xs)) ≡ rows s n (table l t xs)
  rows-lent t s n a h w e = ap (rows s n) (open-end a xs ∙ ap (λ (b : ℕ). drop b xs) e) ∙ sym (rows-table l t s n xs h w)

  pub refs-lent : (t s n a : ℕ) → t < 15 → n * s ≤ get_or (sizes l) t 0 → a ≡ place l t → refs s n (take (length xs - a) (drop a xs)) ≡ refs s n (table l t xs)
  unfolding refs
  refs-lent t s n a h w e = ap (map ref_of) (rows-lent t s n a h w e)

  pub lists-lent : (f : List ℕ → Bool) (o t s n a : ℕ) → t < 15 → n * s ≤ get_or (sizes l) t 0 → a ≡ place l t
      → all_lists f o s n (take (length xs - a) (drop a xs)) ≡ all_lists f o s n (table l t xs)
  unfolding all_lists
  lists-lent f o t s n a h w e = ap (all (λ row. f (drop o row))) (rows-lent t s n a h w e)

  pub keys-lent : (t s n a : ℕ) → t < 15 → n * s ≤ get_or (sizes l) t 0 → a ≡ place l t
      → row_keys s n (take (length xs - a) (drop a xs)) ≡ row_keys s n (table l t xs)
  unfolding row_keys
  keys-lent t s n a h w e = ap (map key_of) (rows-lent t s n a h w e)

  -- the first n bytes of a table
  pub bytes-lent : (t n a : ℕ) → t < 15 → n ≤ get_or (sizes l) t 0 → a ≡ place l t → take (a + n - a) (drop a xs) ≡ take n (table l t xs)
  unfolding part
  bytes-lent t n a h w e =
      part-between a n xs ∙ ap (λ (b : ℕ). part b n xs) e
      ∙ sym (ap (take n) (cut-part (sizes l) t xs h) ∙ take-take n (get_or (sizes l) t 0) (drop (place l t) xs) w)

  pub cache-sound : {A : Type 0} (value : List ℕ → List ℕ → A) (i s n j t m : ℕ) → i < 15 → n * s ≤ get_or (sizes l) i 0 → j < 15 → m * t ≤ get_or (sizes l) j 0
      → sound (cache_from l i s n j t m) xs ≡ cache_whole m s n (table l i xs) (cache_in value s n (table l i xs) t m (table l j xs))
  unfolding sound cache_whole cache_of
  cache-sound value i s n j t m hi wi hj wj =
      let es : List Ref = refs s n (table l i xs) in
      let rs : List ExpiryRow = expiry_rows t m (table l j xs) in
      (λ k. all_below m (places (refs-table i s n hi wi k))
      && ascending (keys (cache_of value_bytes (refs-table i s n hi wi k) (rows-expiry j t m hj wj k)).entries)
      && in_pop_order (cache_of value_bytes (refs-table i s n hi wi k) (rows-expiry j t m hj wj k)).expiry)
      ∙ ap (λ (ks : List ℕ). all_below m (places es) && ascending ks && in_pop_order (cache_of value_bytes es rs).expiry) (keys-named value_bytes es rs ∙ sym (keys-named value es rs))

-- the places of a cache that passes its test name rows
pub cache-below : {A : Type 0} (m s n : ℕ) (entries : List ℕ) (c : Cache A) → cache_whole m s n entries c ≡ true → places_name m s n entries ≡ true
unfolding cache_whole
cache-below m s n entries c h = (each (places_name m s n entries) (ascending (keys c.entries) ∷ in_pop_order c.expiry ∷ []) h).0
