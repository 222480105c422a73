-- Rows of the tables that are kept in order, and all rows of one.
-- Assumes nothing.
use Rattle.alike.proofs.Words.{None, ◌≡◌, refl, sym, ap, ◌∙◌, subst, Bool, true, false, ◌&&◌, List, [], ℕ, ◌<◌, arith, eqb, lit<, length, Entry, entry, Timed, Cache, State, Limits, Grafts, Cached, same_list, same_mark, same_hop, same_grafts, same_cached, same_unit}
use Rattle.storage.specs.Refs.Refs.{Ref, places, Below}
use Rattle.time_cache.specs.Tables.{Lies, refs_at}
use Rattle.time_cache.specs.declared.cache.TimeBoundCache.{TimeBoundCache}
use Rattle.protocol.specs.Links.{eager}
use Rattle.protocol.specs.Alike.{same_map}
use Rattle.block.specs.View.{limits_of}
use Rattle.block.specs.declared.head.Head.{Head}
use Rattle.block.specs.declared.panel.View.{View}
use Rattle.block.specs.TimeCaches.{received_cache, grafted_cache, cached_cache}
use Rattle.alike.specs.Elements.{same_element}
use Rattle.alike.specs.Rows.{same_entry, same_timed, same_row, same_rows, rows_of}
use Rattle.alike.specs.declared.tables.RowTable.{RowTable}
use Rattle.alike.specs.declared.tables.RowTable.TheVariants.{Links, Missing, Timers, Received, Grafted, Cached as CachedRows}
use Rattle.alike.proofs.Lists.{no-round, list-yes, list-no, list_length}
use Rattle.alike.proofs.BlockReads.{key_of, count-read}
use Rattle.block.specs.Caches.Standing.{StandsIn}
use Rattle.block.proofs.CachesLaws.CacheLaws.{refs-in}

-- key and expiry first, then the value
swap : (t k v : Bool) → ((t && k) && v) ≡ (k && (t && v))
swap true true v = refl
swap true false v = refl
swap false true v = refl
swap false false v = refl

pub entry-same : {A : Type 0} (same : A → A → Bool) (x y : Entry (Timed A)) → same_entry (same_timed same) x y ≡ (same_element (key_of x) (key_of y) && same x.value.value y.value.value)
entry-same same x y =
    sym (ap (λ (b : Bool). b && same x.value.value y.value.value) (no-round x.value.expires y.value.expires x.key y.key)
    ∙ swap (eqb x.value.expires y.value.expires) (eqb x.key y.key) (same x.value.value y.value.value))

-- what a comparison of keys asks of a time cache and an entry
abbrev pub Asks : TimeBoundCache → List ℕ → ℕ → Type 0
Asks c xs i = Lies c xs × Below c.expiry.len (places (refs_at c xs)) × (i < c.entries.len)

-- what stands where there is no such entry
abbrev pub no_received : Entry (Timed (Unit {0}))
no_received = entry 0 (record { expires = 0; value = tt })

abbrev pub no_grafted : Entry (Timed Grafts)
no_grafted = entry 0 (record { expires = 0; value = record { first = None; kept = None; peers = [] } })

abbrev pub no_cached : Entry (Timed Cached)
no_cached = entry 0 (record { expires = 0; value = record { content = []; round = 0 } })

-- the entries of the three name rows
module _ (v : View) where
  abbrev h : Head
  h = v.head.now

  abbrev xs : List ℕ
  xs = v.block.now

  abbrev l : Limits
  l = limits_of h.limits

  pub received-named : Below h.live.received_rows (places (refs_at (received_cache h) xs))
  received-named = subst (λ (es : List Ref). Below h.live.received_rows (places es)) (sym (refs-in l 2 2 h.live.received 3 40 h.live.received_rows xs (lit< tt) (omega (arith, v.sound.fit)) (lit< tt) (omega (arith, v.sound.fit)))) v.sound.laid.received

  pub grafted-named : Below h.live.grafted_rows (places (refs_at (grafted_cache h) xs))
  grafted-named = subst (λ (es : List Ref). Below h.live.grafted_rows (places es)) (sym (refs-in l 7 119 h.live.grafted 8 40 h.live.grafted_rows xs (lit< tt) (omega (arith, v.sound.fit)) (lit< tt) (omega (arith, v.sound.fit)))) v.sound.laid.grafted

  pub cached-named : Below h.live.cached_rows (places (refs_at (cached_cache h) xs))
  cached-named = subst (λ (es : List Ref). Below h.live.cached_rows (places es)) (sym (refs-in l 4 4 h.live.cached 5 48 h.live.cached_rows xs (lit< tt) (omega (arith, v.sound.fit)) (lit< tt) (omega (arith, v.sound.fit)))) v.sound.laid.cached

-- what a comparison of keys asks, of the tables that a cache stands in
pub asked : {A : Type 0} (t u : TimeBoundCache) (xs : List ℕ) (c : Cache A) (i : ℕ) → StandsIn t xs c → t ≡ u → Below u.expiry.len (places (refs_at u xs)) → i < length c.entries → Asks t xs i
asked t u xs c i s e b q = (s.lies, subst (λ (w : TimeBoundCache). Below w.expiry.len (places (refs_at w xs))) (sym e) b, omega (arith, q, count-read t xs c s))

-- all rows of a table
module _ (s u : State) where
  pub rows-yes : (t : RowTable) → rows_of t s ≡ rows_of t u → ((k : ℕ) → k < rows_of t s → same_row t s u k ≡ true) → same_rows t s u ≡ true
  unfolding same_map
  rows-yes Links e h = list-yes (same_entry same_mark) (entry 0 eager) s.links u.links e h
  rows-yes Missing e h = list-yes (same_entry (same_list same_hop)) (entry 0 []) s.missing u.missing e h
  rows-yes Timers e h = list-yes eqb 0 s.timers.graft u.timers.graft e h
  rows-yes Received e h = list-yes (same_entry (same_timed same_unit)) no_received s.received.entries u.received.entries e h
  rows-yes Grafted e h = list-yes (same_entry (same_timed same_grafts)) no_grafted s.grafted.entries u.grafted.entries e h
  rows-yes CachedRows e h = list-yes (same_entry (same_timed same_cached)) no_cached s.cache.entries u.cache.entries e h

  pub rows-no : (t : RowTable) (k : ℕ) → k < rows_of t s → k < rows_of t u → same_row t s u k ≡ false → same_rows t s u ≡ false
  unfolding same_map
  rows-no Links k p q e = list-no (same_entry same_mark) (entry 0 eager) s.links u.links k p q e
  rows-no Missing k p q e = list-no (same_entry (same_list same_hop)) (entry 0 []) s.missing u.missing k p q e
  rows-no Timers k p q e = list-no eqb 0 s.timers.graft u.timers.graft k p q e
  rows-no Received k p q e = list-no (same_entry (same_timed same_unit)) no_received s.received.entries u.received.entries k p q e
  rows-no Grafted k p q e = list-no (same_entry (same_timed same_grafts)) no_grafted s.grafted.entries u.grafted.entries k p q e
  rows-no CachedRows k p q e = list-no (same_entry (same_timed same_cached)) no_cached s.cache.entries u.cache.entries k p q e

  pub rows-length : (t : RowTable) → (rows_of t s ≡ rows_of t u → ⊥) → same_rows t s u ≡ false
  unfolding same_map
  rows-length Links n = list_length (same_entry same_mark) (entry 0 eager) s.links u.links n
  rows-length Missing n = list_length (same_entry (same_list same_hop)) (entry 0 []) s.missing u.missing n
  rows-length Timers n = list_length eqb 0 s.timers.graft u.timers.graft n
  rows-length Received n = list_length (same_entry (same_timed same_unit)) no_received s.received.entries u.received.entries n
  rows-length Grafted n = list_length (same_entry (same_timed same_grafts)) no_grafted s.grafted.entries u.grafted.entries n
  rows-length CachedRows n = list_length (same_entry (same_timed same_cached)) no_cached s.cache.entries u.cache.entries n
