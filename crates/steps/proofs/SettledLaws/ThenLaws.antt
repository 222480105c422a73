-- What a first event's eviction leaves of a time cache, found in the cache as it stands.
-- Assumes nothing.
use Rattle.steps.proofs.Words.{ℕ, ◌*◌, ◌≤◌, ◌<◌, ◌≡◌, refl, sym, ap, ◌∙◌, Bool, true, false, List, [], map, arith, ltb, lit<, length, get_or, if◌then◌else◌, Some, None, Map, Entry, entry, lookup, cases, Timed, Cache, later_cache, State, Limits, Cached, Grafts, limits_of, cached_of, Head}
use Rattle.std.proofs.Common.{subst}
use lib.ListN.{length-map}
use Rattle.storage.proofs.ListsLaws.Branches.{if-on, if-both}
use Rattle.storage.specs.Refs.Refs.{Ref, ref, refs, places}
use Rattle.storage.proofs.RefsLaws.Places.{get_or-map-in, length-refs}
use Rattle.time_cache.specs.TimeCache.{value_of, get}
use Rattle.time_cache.specs.Tables.{expiry_rows, row_at, ValueBytes, value_bytes, entry_of, cache_of, cache_in, refs_at, rows_at, cache_at, read_as, values_as, Sound}
use Rattle.time_cache.specs.Steps.{ref_at, held_at, GotAt}
use Rattle.time_cache.specs.declared.cache.TimeBoundCache.{TimeBoundCache}
use Rattle.time_cache.proofs.ReadLaws.{length-es}
use Rattle.time_cache.proofs.ValueLaws.{option_as, get-as, later-as}
use Rattle.block.specs.Layout.{sizes, table}
use Rattle.block.specs.View.{state_of, cached_in}
use Rattle.block.specs.Fit.{Fit}
use Rattle.block.specs.TimeCaches.{cache_from, cached_cache}
use Rattle.block.proofs.CachesLaws.CacheLaws.{refs-in, rows_in}
use Rattle.decide.specs.Settled.{alive_value, settled}
use Rattle.decide.proofs.SettledLaws.{get-later}
use Rattle.steps.specs.Shared.{HeldAt, EntryIs}
use Rattle.std.specs.Prelude.{Option as Answer}
use Rattle.steps.specs.Settled.Then.{no_held, no_cached, no_grafted, left_then}

-- the settled state, where `init` is set and where it is not
module _ (now : ℕ) (s : State) where
  pub settled-still : s.init ≡ true → settled now s ≡ s
  unfolding settled
  settled-still e = rw e refl

-- the flag of the state is the header's
pub init-of : (h : Head) (xs : List ℕ) → (state_of h xs).init ≡ h.live.init
unfolding state_of
init-of h xs = refl

-- the time caches of the settled state
module _ (now : ℕ) (h : Head) (xs : List ℕ) where
  pub settled_received : (settled now (state_of h xs)).received ≡ left_then h.live.init now (state_of h xs).received
  unfolding settled state_of
  settled_received = if-on (λ (x : State). x.received) h.live.init _ _

  pub settled_cache : (settled now (state_of h xs)).cache ≡ left_then h.live.init now (state_of h xs).cache
  unfolding settled state_of
  settled_cache = if-on (λ (x : State). x.cache) h.live.init _ _

  settled_grafted : (settled now (state_of h xs)).grafted ≡ left_then h.live.init now (state_of h xs).grafted
  unfolding settled state_of
  settled_grafted = if-on (λ (x : State). x.grafted) h.live.init _ _

-- what is found of them
module _ (now : ℕ) (h : Head) (xs : List ℕ) (id : ℕ) (r : Answer ℕ) where
  pub cached_entry : ((d : Entry (Timed Cached)) → EntryIs d (state_of h xs).cache.entries id (get id (left_then h.live.init now (state_of h xs).cache)) r)
      → EntryIs no_cached (state_of h xs).cache.entries id (get id (settled now (state_of h xs)).cache) r
  cached_entry e = subst (λ (c : Cache Cached). EntryIs no_cached (state_of h xs).cache.entries id (get id c) r) (sym (settled_cache now h xs)) (e no_cached)

  pub grafted_entry : ((d : Entry (Timed Grafts)) → EntryIs d (state_of h xs).grafted.entries id (get id (left_then h.live.init now (state_of h xs).grafted)) r)
      → EntryIs no_grafted (state_of h xs).grafted.entries id (get id (settled now (state_of h xs)).grafted) r
  grafted_entry e = subst (λ (c : Cache Grafts). EntryIs no_grafted (state_of h xs).grafted.entries id (get id c) r) (sym (settled_grafted now h xs)) (e no_grafted)

-- what is found of a key among the entries of a block
module _ (c : TimeBoundCache) (xs : List ℕ) (sound : Sound c xs) (init : Bool) (now id : ℕ) where
  abbrev all : Cache ValueBytes
  all = cache_at c xs

  found : get id (left_then init now all) ≡ (if init then value_of (lookup id all.entries) else alive_value now (lookup id all.entries))
  unfolding get
  found = if-on (get id) init all (later_cache now all) ∙ if-both init refl (get-later now id all sound.up)

  module _ (i p : ℕ) (g : GotAt c xs id i p) where
    entry-is : get_or all.entries i no_held ≡ entry id (record { expires = (row_at (rows_at c xs) p).time; value = held_at c i p xs })
    unfolding cache_of
    entry-is =
        get_or-map-in (entry_of value_bytes (rows_at c xs)) (refs_at c xs) i no_held (ref 0 []) (omega (arith, g.entry, length-es c xs))
        ∙ ap (λ (q : ℕ). entry (row_at (rows_at c xs) q).key (record { expires = (row_at (rows_at c xs) q).time; value = held_at c i q xs })) g.names
        ∙ ap (λ (k : ℕ). entry k (record { expires = (row_at (rows_at c xs) p).time; value = held_at c i p xs })) g.key

    held-at : get id (left_then init now all) ≡ Some (held_at c i p xs) → HeldAt no_held all.entries id (get id (left_then init now all)) i
    unfolding cache_of
    held-at e = record {
      below = omega (arith, g.entry, length-es c xs, length-map (refs_at c xs) (entry_of value_bytes (rows_at c xs)));
      key = ap (λ (x : Entry (Timed ValueBytes)). x.key) entry-is;
      value = e ∙ sym (ap (λ (x : Entry (Timed ValueBytes)). Some x.value.value) entry-is);
    }

    pub there-still : init ≡ true → HeldAt no_held all.entries id (get id (left_then init now all)) i
    unfolding value_of
    there-still e = held-at (found ∙ rw e (ap value_of g.value))

    pub there-later : init ≡ false → ltb now (row_at (rows_at c xs) p).time ≡ true → HeldAt no_held all.entries id (get id (left_then init now all)) i
    unfolding alive_value
    there-later e l = held-at (found ∙ rw e (ap (alive_value now) g.value ∙ rw l refl))

    pub there-gone : init ≡ false → ltb now (row_at (rows_at c xs) p).time ≡ false → get id (left_then init now all) ≡ None
    unfolding alive_value
    there-gone e l = found ∙ rw e (ap (alive_value now) g.value ∙ rw l refl)

  pub nowhere : lookup id all.entries ≡ None → get id (left_then init now all) ≡ None
  unfolding value_of alive_value
  nowhere e = found ∙ cases init (λ q. rw q (ap value_of e)) (λ q. rw q (ap (alive_value now) e))

-- the same of the values that are read from the bytes
module _ {A B : Type 0} (f : A → B) (c : Cache A) (d : Cache B) (same : values_as f c ≡ d) (init : Bool) (now id : ℕ) (a : Entry (Timed A)) (b : Entry (Timed B)) where
  get-then : get id (left_then init now d) ≡ option_as f (get id (left_then init now c))
  get-then =
      ap (get id) (cases init (λ p. rw p (sym same)) (λ p. rw p (sym (later-as f now c ∙ ap (later_cache now) same))))
      ∙ get-as f id (left_then init now c)

  entries-then : d.entries ≡ map (read_as f) c.entries
  unfolding values_as
  entries-then = sym (ap (λ (x : Cache B). x.entries) same)

  pub held_as : (r : Answer ℕ) → EntryIs a c.entries id (get id (left_then init now c)) r → EntryIs b d.entries id (get id (left_then init now d)) r
  unfolding option_as
  held_as (Some i) h =
      let e : get_or d.entries i b ≡ read_as f (get_or c.entries i a) = ap (λ (m : Map (Timed B)). get_or m i b) entries-then ∙ get_or-map-in (read_as f) c.entries i b a h.below in
      record {
        below = omega (arith, h.below, ap length entries-then, length-map c.entries (read_as f));
        key = ap (λ (x : Entry (Timed B)). x.key) e ∙ h.key;
        value = get-then ∙ ap (option_as f) h.value ∙ sym (ap (λ (x : Entry (Timed B)). Some x.value.value) e);
      }
  held_as None h = get-then ∙ ap (option_as f) h

-- the place that entry i names is that of a row
pub place-below : (c : TimeBoundCache) (xs : List ℕ) → Sound c xs → (i : ℕ) → i < c.entries.len → (ref_at (refs_at c xs) i).place < c.expiry.len
place-below c xs s i h =
    let es : List Ref = refs_at c xs in
    let n : length es ≡ c.entries.len = length-refs c.entries.stride c.entries.len _ in
    let b : get_or (places es) i 0 < c.expiry.len = s.below.below i (omega (arith, n, length-map es (λ (r : Ref). r.place))) in
    omega (arith, b, get_or-map-in (λ (r : Ref). r.place) es i 0 (ref 0 []) (omega (arith, n)))

-- when entry i expires, as the view reads it
module _ (l : Limits) (i s n j t m : ℕ) (xs : List ℕ) (hi : i < 15) (wi : n * s ≤ get_or (sizes l) i 0) (hj : j < 15) (wj : m * t ≤ get_or (sizes l) j 0) {A : Type 0} (value : List ℕ → List ℕ → A) where
  time-in : (k : ℕ) (d : Entry (Timed A)) → k < n
      → (row_at (rows_at (cache_from l i s n j t m) xs) (ref_at (refs_at (cache_from l i s n j t m) xs) k).place).time ≡ (get_or (cache_in value s n (table l i xs) t m (table l j xs)).entries k d).value.expires
  unfolding cache_of
  time-in k d h =
      (λ a. (row_at (rows_in l i s n j t m xs hi wi hj wj a) (ref_at (refs-in l i s n j t m xs hi wi hj wj a) k).place).time)
      ∙ sym (ap (λ (e : Entry (Timed A)). e.value.expires) (get_or-map-in (entry_of value (expiry_rows t m (table l j xs))) (refs s n (table l i xs)) k d (ref 0 []) (omega (arith, length-refs s n (table l i xs)))))

module _ (h : Head) (xs : List ℕ) (fit : Fit h xs) (k : ℕ) where
  pub cached-time : k < h.live.cached → (row_at (rows_at (cached_cache h) xs) (ref_at (refs_at (cached_cache h) xs) k).place).time ≡ (get_or (state_of h xs).cache.entries k no_cached).value.expires
  unfolding state_of cached_in
  cached-time q = time-in (limits_of h.limits) 4 4 h.live.cached 5 48 h.live.cached_rows xs (lit< tt) (omega arith) (lit< tt) (omega arith) (cached_of (table (limits_of h.limits) 6 xs)) k no_cached q
