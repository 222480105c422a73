-- What is read of a sound cache in a block: look-ups, and what is later than an instant.
-- Assumes nothing.
use Rattle.std.proofs.Common.{Some, None, is_some, ◌≡◌, refl, sym, ap, ◌∙◌, subst, true, false, List, [], map, ℕ, ◌+◌, ◌-◌, ◌*◌, ◌<◌, add_assoc, arith, ltb, length, take, drop, length-drop, drop-drop}
use lib.ListN.{length-map}
use Rattle.storage.specs.Lists.Base.{filter, count}
use Rattle.storage.specs.Lists.Map.{Entry, keys, lookup}
use Rattle.storage.proofs.ListsLaws.MapLaws.{cases}
use Rattle.storage.proofs.ListsLaws.ListLaws.{length-filter}
use Rattle.storage.specs.Rows.Part.{part}
use Rattle.storage.specs.Rows.Digits.{le_nat, be_nat}
use Rattle.storage.specs.Rows.Sorted.{Between, Here}
use Rattle.storage.specs.Refs.Refs.{Ref, ref, places, names, lowered, left}
use Rattle.storage.proofs.RefsLaws.Places.{get_or-map-in, length-refs, place_in}
use Rattle.time_cache.specs.TimeCache.{Timed, later_cache, holds}
use Rattle.time_cache.specs.Tables.{ExpiryRow, expiry_of, row_at, named, Cut, ValueBytes, value_bytes, entry_of, cache_of, refs_at, rows_at, cache_at, Lies, Sound}
use Rattle.time_cache.specs.Steps.{ref_at, held_at, GotAt}
use Rattle.time_cache.specs.declared.cache.TimeBoundCache.{TimeBoundCache}
use Rattle.time_cache.proofs.Timely.{later-filter}
use Rattle.time_cache.proofs.Orders.{below, of-below, up_of}
use Rattle.time_cache.proofs.MapPlaces.{lookup-here, lookup-between, passes, lookup-filter}
use Rattle.time_cache.proofs.Cuts.{cut_later}
use Rattle.time_cache.proofs.TableLaws.{keys-named, entries-left}
use Rattle.time_cache.proofs.ExpiryLaws.{length-expiry_rows, time-at, key-at}

part-drop : (a o k : ℕ) (xs : List ℕ) → part o k (drop a xs) ≡ part (a + o) k xs
unfolding part
part-drop a o k xs = ap (take k) (drop-drop o a xs)

module _ (c : TimeBoundCache) (xs : List ℕ) where
  -- the place in entry i and the time in row p, as they lie in the block
  pub place_of : Lies c xs → (i : ℕ) → i < c.entries.len → (ref_at (refs_at c xs) i).place ≡ le_nat (part (c.entries.at + i * c.entries.stride) 2 xs)
  place_of l i h =
      place_in c.entries.stride c.entries.len i (ref 0 []) (drop c.entries.at xs) l.entry_wide h
      ∙ ap le_nat (part-drop c.entries.at (i * c.entries.stride) 2 xs)

  pub time-of : Lies c xs → (p : ℕ) → p < c.expiry.len → (row_at (rows_at c xs) p).time ≡ le_nat (part (c.expiry.at + p * c.expiry.stride) 8 xs)
  time-of l p h =
      time-at c.expiry.stride c.expiry.len p (drop c.expiry.at xs) l.expiry_wide h
      ∙ ap le_nat (part-drop c.expiry.at (p * c.expiry.stride) 8 xs)

  -- the identifier in row p
  pub key-of : Lies c xs → (p : ℕ) → p < c.expiry.len → (row_at (rows_at c xs) p).key ≡ be_nat (part (c.expiry.at + p * c.expiry.stride + 8) 32 xs)
  key-of l p h =
      key-at c.expiry.stride c.expiry.len p (drop c.expiry.at xs) l.expiry_wide h
      ∙ ap be_nat (part-drop c.expiry.at (p * c.expiry.stride + 8) 32 xs ∙ ap (λ (n : ℕ). part n 32 xs) (sym (add_assoc c.expiry.at (p * c.expiry.stride) 8)))

  abbrev pub es : List Ref
  es = refs_at c xs

  abbrev pub rs : List ExpiryRow
  rs = rows_at c xs

  pub length-es : length es ≡ c.entries.len
  length-es = length-refs c.entries.stride c.entries.len (drop c.entries.at xs)

  pub length-rs : length rs ≡ c.expiry.len
  length-rs = length-expiry_rows c.expiry.stride c.expiry.len (drop c.expiry.at xs)

  -- as many entries as rows of places
  pub count-of : length (cache_at c xs).entries ≡ c.entries.len
  unfolding cache_of
  count-of = length-map es (entry_of value_bytes rs) ∙ length-es

  -- as many times as rows
  pub count-times : length (cache_at c xs).expiry ≡ c.expiry.len
  unfolding cache_of
  count-times = length-map rs expiry_of ∙ length-rs

  keys-are : named rs es ≡ keys (cache_at c xs).entries
  keys-are = sym (keys-named value_bytes es rs)

  pub sound-below : Sound c xs → below (length rs) (places es) ≡ true
  sound-below s = ap (λ (m : ℕ). below m (places es)) length-rs ∙ of-below c.expiry.len (places es) s.below

  pub found_within : (k i : ℕ) → Here (named rs es) k i → i < c.entries.len
  unfolding named
  found_within k i h = omega (arith, h.within, length-map es (λ (r : Ref). (row_at rs r.place).key), length-es)

  -- where the key was found, and where it was not
  pub found_here : Sound c xs → (k i : ℕ) → Here (named rs es) k i
      → lookup k (cache_at c xs).entries ≡ Some (record { expires = (row_at rs (ref_at es i).place).time; value = held_at c i (ref_at es i).place xs })
  unfolding cache_of
  found_here s k i h =
      let d : Entry (Timed ValueBytes) = entry_of value_bytes rs (ref 0 []) in
      lookup-here k i d (map (entry_of value_bytes rs) es) (up_of (keys (map (entry_of value_bytes rs) es)) s.up) (subst (λ (ks : List ℕ). Here ks k i) keys-are h)
      ∙ ap (λ (e : Entry (Timed ValueBytes)). Some e.value) (get_or-map-in (entry_of value_bytes rs) es i d (ref 0 []) (omega (arith, found_within k i h, length-es)))

  pub found_none : (k i : ℕ) → Between (named rs es) k i → lookup k (cache_at c xs).entries ≡ None
  found_none k i b = lookup-between k i (cache_at c xs).entries (subst (λ (ks : List ℕ). Between ks k i) keys-are b)

  pub got-at : Sound c xs → (k i p : ℕ) → Here (named rs es) k i → p ≡ (ref_at es i).place → GotAt c xs k i p
  unfolding named
  got-at s k i p h e =
      let w : i < c.entries.len = found_within k i h in
      record {
        entry = w;
        row = omega (arith, e, get_or-map-in (λ (r : Ref). r.place) es i 0 (ref 0 []) (omega (arith, length-es)), s.below.below i (omega (arith, length-map es (λ (r : Ref). r.place), length-es)));
        names = sym e;
        key = ap (λ (q : ℕ). (row_at rs q).key) e
            ∙ sym (get_or-map-in (λ (r : Ref). (row_at rs r.place).key) es i 0 (ref 0 []) (omega (arith, length-es))) ∙ h.same;
        value = found_here s k i h ∙ ap (λ (q : ℕ). Some (record { expires = (row_at rs q).time; value = held_at c i q xs })) (sym e);
      }

  -- what is later than an instant
  pub count-rows : Sound c xs → (t k : ℕ) → Cut (cache_at c xs).expiry t k → length (later_cache t (cache_at c xs)).expiry ≡ c.expiry.len - k
  unfolding later_cache cache_of
  count-rows s t k u =
      ap length (sym (later-filter t (map expiry_of rs) s.order) ∙ cut_later (map expiry_of rs) t k u)
      ∙ length-drop k (map expiry_of rs) ∙ ap (λ (m : ℕ). m - k) (length-map rs expiry_of ∙ length-rs)

  pub count_entries : Sound c xs → (t k : ℕ) → Cut (cache_at c xs).expiry t k → length (later_cache t (cache_at c xs)).entries ≡ count (names k) es
  unfolding later_cache cache_of left
  count_entries s t k u =
      ap length (sym (entries-left value_bytes t k es rs u (sound-below s)))
      ∙ length-map (map (lowered k) (filter (names k) es)) (entry_of value_bytes (drop k rs))
      ∙ length-map (filter (names k) es) (lowered k)
      ∙ length-filter (names k) es

  -- a key that is later than an instant
  pub holds_later : Sound c xs → (k t : ℕ) (v : Timed ValueBytes) → lookup k (cache_at c xs).entries ≡ Some v → holds k (later_cache t (cache_at c xs)) ≡ ltb t v.expires
  unfolding later_cache passes
  holds_later s k t v e =
      ap is_some (lookup-filter (λ d. ltb t d.value.expires) k (cache_at c xs).entries s.up ∙ ap (passes (λ d. ltb t d.value.expires) k) e)
      ∙ cases (ltb t v.expires) (λ p. rw p refl) (λ p. rw p refl)

  pub not-later : Sound c xs → (k t : ℕ) → lookup k (cache_at c xs).entries ≡ None → holds k (later_cache t (cache_at c xs)) ≡ false
  unfolding later_cache passes
  not-later s k t e =
      ap is_some (lookup-filter (λ d. ltb t d.value.expires) k (cache_at c xs).entries s.up ∙ ap (passes (λ d. ltb t d.value.expires) k) e)
