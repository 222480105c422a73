-- The tables of a state that are kept in order: one row of each compared, and all of them.
-- Assumes nothing.
use Rattle.std.specs.Prelude.{ℕ, ◌<◌, Bool, ◌&&◌, ◌≡◌, List, [], eqb, length, get_or}
use Rattle.storage.specs.Lists.Map.{Entry, entry}
use Rattle.time_cache.specs.TimeCache.{Timed}
use Rattle.protocol.specs.State.{State, Cached}
use Rattle.protocol.specs.Alike.{same_list, same_map, same_mark, same_hop, same_grafts, same_cached, same_unit}
use Rattle.block.specs.LinkSteps.{link_at}
use Rattle.block.specs.MissingSteps.{missed_at}
use Rattle.block.specs.Caches.GraftSteps.{grafted_at}
use Rattle.alike.specs.declared.tables.RowTable.{RowTable}
use Rattle.alike.specs.declared.tables.RowTable.TheVariants.{Links, Missing, Timers, Received, Grafted, Cached as CachedRows}

-- two entries of maps
abbrev pub same_entry : {A : Type 0} → (A → A → Bool) → Entry A → Entry A → Bool
same_entry same d e = eqb d.key e.key && same d.value e.value

-- two values of time caches
abbrev pub same_timed : {A : Type 0} → (A → A → Bool) → Timed A → Timed A → Bool
same_timed same x y = eqb x.expires y.expires && same x.value y.value

-- received message i with its expiry
abbrev pub received_at : State → ℕ → Entry (Timed (Unit {0}))
received_at s i = get_or s.received.entries i (entry 0 (record { expires = 0; value = tt }))

-- cached message i with its expiry
abbrev pub cached_entry : State → ℕ → Entry (Timed Cached)
cached_entry s i = get_or s.cache.entries i (entry 0 (record { expires = 0; value = record { content = []; round = 0 } }))

-- row i of a table of two states
abbrev pub same_row : RowTable → State → State → ℕ → Bool
same_row Links s t i = same_entry same_mark (link_at s i) (link_at t i)
same_row Missing s t i = same_entry (same_list same_hop) (missed_at s i) (missed_at t i)
same_row Timers s t i = eqb (get_or s.timers.graft i 0) (get_or t.timers.graft i 0)
same_row Received s t i = same_entry (same_timed same_unit) (received_at s i) (received_at t i)
same_row Grafted s t i = same_entry (same_timed same_grafts) (grafted_at s i) (grafted_at t i)
same_row CachedRows s t i = same_entry (same_timed same_cached) (cached_entry s i) (cached_entry t i)

-- all rows of it
abbrev pub same_rows : RowTable → State → State → Bool
same_rows Links s t = same_map same_mark s.links t.links
same_rows Missing s t = same_map (same_list same_hop) s.missing t.missing
same_rows Timers s t = same_list eqb s.timers.graft t.timers.graft
same_rows Received s t = same_map (same_timed same_unit) s.received.entries t.received.entries
same_rows Grafted s t = same_map (same_timed same_grafts) s.grafted.entries t.grafted.entries
same_rows CachedRows s t = same_map (same_timed same_cached) s.cache.entries t.cache.entries

-- how many rows it has
abbrev pub rows_of : RowTable → State → ℕ
rows_of Links s = length s.links
rows_of Missing s = length s.missing
rows_of Timers s = length s.timers.graft
rows_of Received s = length s.received.entries
rows_of Grafted s = length s.grafted.entries
rows_of CachedRows s = length s.cache.entries

-- the first n numbers agree
abbrev pub SameUpTo : ℕ → List ℕ → List ℕ → Type 0
SameUpTo n xs ys = (k : ℕ) → k < n → get_or xs k 0 ≡ get_or ys k 0
