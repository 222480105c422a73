-- What is read of the tables that a time cache stands in, as the state has it.
-- Assumes nothing.
use Rattle.alike.proofs.Words.{◌≡◌, sym, ap, ◌∙◌, List, [], map, ℕ, ◌<◌, arith, length, get_or, drop, Entry, Timed, Cache}
use lib.ListN.{length-map, get_or-map}
use Rattle.storage.specs.Refs.Refs.{Ref, ref, places, Below}
use Rattle.storage.proofs.RefsLaws.Places.{get_or-map-in, length-refs}
use Rattle.time_cache.specs.Tables.{ValueBytes, expiry_of, no_row, row_at, value_bytes, entry_of, cache_of, values_as, refs_at, rows_at, cache_at, read_as}
use Rattle.time_cache.specs.Steps.{ref_at}
use Rattle.time_cache.specs.declared.cache.TimeBoundCache.{TimeBoundCache}
use Rattle.time_cache.proofs.ExpiryLaws.{length-expiry_rows}
use Rattle.time_cache.proofs.ValueLaws.{length-as}
use Rattle.block.specs.Caches.Standing.{StandsIn}
use Rattle.alike.specs.Elements.{Element, element, expiry_element}

-- key and time of an entry
abbrev pub key_of : {A : Type 0} → Entry (Timed A) → Element
key_of x = element x.value.expires x.key 0

-- key and time of the row that entry i names
abbrev pub key_at : TimeBoundCache → List ℕ → ℕ → Element
key_at t xs i = expiry_element (expiry_of (row_at (rows_at t xs) (ref_at (refs_at t xs) i).place))

count-refs : (t : TimeBoundCache) (xs : List ℕ) → length (refs_at t xs) ≡ t.entries.len
count-refs t xs = length-refs t.entries.stride t.entries.len (drop t.entries.at xs)

module _ {A : Type 0} (t : TimeBoundCache) (xs : List ℕ) (c : Cache A) (s : StandsIn t xs c) where
  pub count-read : length c.entries ≡ t.entries.len
  unfolding cache_of
  count-read =
      ap (λ (d : Cache A). length d.entries) (sym s.same)
      ∙ length-as s.value (cache_at t xs)
      ∙ length-map (refs_at t xs) (entry_of value_bytes (rows_at t xs))
      ∙ count-refs t xs

  pub key-read : (i : ℕ) (d : Entry (Timed A)) → i < length c.entries → key_at t xs i ≡ key_of (get_or c.entries i d)
  unfolding values_as cache_of
  key-read i d h =
      let es : List Ref = refs_at t xs in
      let q : i < length es = omega (arith, count-read, count-refs t xs) in
      sym (ap (λ (k : Cache A). key_of (get_or k.entries i d)) (sym s.same)
      ∙ ap key_of (get_or-map-in (read_as s.value) (map (entry_of value_bytes (rows_at t xs)) es) i d (entry_of value_bytes (rows_at t xs) (ref_at es i)) (omega (arith, q, length-map es (entry_of value_bytes (rows_at t xs)))))
      ∙ ap (λ (e : Entry (Timed ValueBytes)). key_of e) (get_or-map-in (entry_of value_bytes (rows_at t xs)) es i (entry_of value_bytes (rows_at t xs) (ref_at es i)) (ref 0 []) q))

  pub count-rows : length (map expiry_element c.expiry) ≡ t.expiry.len
  unfolding values_as cache_of
  count-rows =
      length-map c.expiry expiry_element
      ∙ ap (λ (d : Cache A). length d.expiry) (sym s.same)
      ∙ length-map (rows_at t xs) expiry_of
      ∙ length-expiry_rows t.expiry.stride t.expiry.len (drop t.expiry.at xs)

  pub row-read : (p : ℕ) → get_or (map expiry_element c.expiry) p (element 0 0 0) ≡ expiry_element (expiry_of (row_at (rows_at t xs) p))
  unfolding values_as cache_of
  row-read p =
      get_or-map expiry_element c.expiry p (expiry_of no_row)
      ∙ ap (λ (d : Cache A). expiry_element (get_or d.expiry p (expiry_of no_row))) (sym s.same)
      ∙ ap expiry_element (get_or-map expiry_of (rows_at t xs) p no_row)

-- an entry of a time cache names a row
pub place-below : (t : TimeBoundCache) (xs : List ℕ) (m i : ℕ) → Below m (places (refs_at t xs)) → i < t.entries.len → (ref_at (refs_at t xs) i).place < m
place-below t xs m i b h =
    let es : List Ref = refs_at t xs in
    omega (arith, b.below i (omega (arith, count-refs t xs, length-map es (λ (r : Ref). r.place))), get_or-map-in (λ (r : Ref). r.place) es i 0 (ref 0 []) (omega (arith, count-refs t xs)))
