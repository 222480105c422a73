-- Which rows take entries out, in order: the keys that `expire_until` removes.
-- Assumes nothing.
use Rattle.std.specs.Prelude.{ℕ, ◌-◌, ◌<◌, ◌≤◌, ◌≡◌, All, Bool, List, [], ◌∷◌, ◌++◌, map, length, get_or, take, drop, eqb, true, false, if◌then◌else◌, Option, Some, None}
use Rattle.storage.specs.Lists.Map.{lookup}
use Rattle.storage.specs.Rows.Ident.{id_of}
use Rattle.storage.specs.declared.rows.id.Id.{Id}
use Rattle.time_cache.specs.TimeCache.{expires_at, pop_all, popped}
use Rattle.time_cache.specs.Tables.{row_at, refs_at, rows_at, cache_at}
use Rattle.time_cache.specs.Steps.{ref_at}
use Rattle.time_cache.specs.declared.cache.TimeBoundCache.{TimeBoundCache}

-- the key of row j
abbrev pub key_of_row : TimeBoundCache → List ℕ → ℕ → ℕ
key_of_row c xs j = (row_at (rows_at c xs) j).key

-- the key of entry i
abbrev pub key_of_entry : TimeBoundCache → List ℕ → ℕ → ℕ
key_of_entry c xs i = key_of_row c xs (ref_at (refs_at c xs) i).place

-- row j takes entry i out, unless a row before it has: entry i has its key and its time
pub record TakesAt (c : TimeBoundCache) (xs : List ℕ) (j i : ℕ) : Type 0 where
  pub entry : i < c.entries.len
  pub key : key_of_entry c xs i ≡ key_of_row c xs j
  pub time : expires_at (row_at (rows_at c xs) j).time (lookup (key_of_row c xs j) (cache_at c xs).entries) ≡ true

-- what is answered of row j: the entry that it takes out, or none
abbrev pub TakesIs : TimeBoundCache → List ℕ → ℕ → Option ℕ → Type 0
TakesIs c xs j (Some i) = TakesAt c xs j i
TakesIs c xs j None = expires_at (row_at (rows_at c xs) j).time (lookup (key_of_row c xs j) (cache_at c xs).entries) ≡ false

-- each place that is not 0 has the entry that names its row, counted from 1
abbrev pub NamesRows : TimeBoundCache → List ℕ → List ℕ → Type 0
NamesRows c xs names = (j : ℕ) → 0 < get_or names j 0 → (get_or names j 0 ≤ c.entries.len) × ((ref_at (refs_at c xs) (get_or names j 0 - 1)).place ≡ j)

-- what is told when row j has passed: its number too, where it has taken an entry out
abbrev pub told_with : Bool → ℕ → List ℕ → List ℕ
told_with true j told = told ++ (j ∷ [])
told_with false j told = told

-- after the first j rows: `gone` marks the entries that these took out, and `told` are the rows that did, in order
pub record Passed (c : TimeBoundCache) (xs gone told : List ℕ) (j : ℕ) : Type 0 where
  pub long : c.entries.len ≤ length gone
  pub marks : (i : ℕ) → i < c.entries.len →
      lookup (key_of_entry c xs i) (pop_all (take j (cache_at c xs).expiry) (cache_at c xs).entries) ≡ (if eqb (get_or gone i 0) 0 then lookup (key_of_entry c xs i) (cache_at c xs).entries else None)
  pub keys : map (key_of_row c xs) told ≡ popped (take j (cache_at c xs).expiry) (cache_at c xs).entries
  pub rows : All (λ r. r < c.expiry.len) told

-- what is written of the keys `removed` into a slice that held `xs`, so that it holds `ys`: the first of them, in order, as many as it has room for; what stands behind these
-- stays as it was
pub record TellsGone (removed : List ℕ) (xs ys : List Id) : Type 0 where
  pub keys : map id_of (take (length removed) ys) ≡ take (length xs) removed
  pub behind : drop (length removed) ys ≡ drop (length removed) xs
