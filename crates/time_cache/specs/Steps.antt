-- What the functions of a time cache leave in the block and answer, as the definitions of specs/TimeCache on the cache that the block holds.
-- Assumes nothing.
use Rattle.std.specs.Prelude.{◌≡◌, List, [], ◌∷◌, ◌++◌, map, ℕ, ◌+◌, ◌-◌, ◌*◌, ◌≤◌, ◌<◌, length, get_or, take, drop, Result, Ok, Err, Option, Some, None}
use Rattle.storage.specs.Lists.Map.{lookup}
use Rattle.storage.specs.Rows.Part.{put}
use Rattle.storage.specs.Rows.Part.{Only}
use Rattle.storage.specs.Rows.Sorted.{FoundIs}
use Rattle.storage.specs.Refs.Refs.{Ref, ref, moved, left}
use Rattle.time_cache.specs.TimeCache.{put as put_in, expire_until, expired_keys}
use Rattle.time_cache.specs.Tables.{expiry_row, row_at, named, ValueBytes, value_bytes, refs_at, rows_at, cache_at, resized, Sound, OnlyTwo}
use Rattle.time_cache.specs.declared.cache.TimeBoundCache.{TimeBoundCache}
use Rattle.time_cache.specs.declared.cache.Inserted.{Inserted}
use Rattle.time_cache.specs.declared.cache.Expired.{Expired}
use Rattle.time_cache.specs.declared.cache.Found.{Found}

-- row i of the entries
abbrev pub ref_at : List Ref → ℕ → Ref
ref_at es i = get_or es i (ref 0 [])

-- what entry i holds, in row p
abbrev pub held_at : TimeBoundCache → ℕ → ℕ → List ℕ → ValueBytes
held_at c i p block = value_bytes (ref_at (refs_at c block) i).own (row_at (rows_at c block) p).rest

-- entry i names row p, and is what the cache has at the key
pub record GotAt (c : TimeBoundCache) (block : List ℕ) (k i p : ℕ) : Type 0 where
  pub entry : i < c.entries.len
  pub row : p < c.expiry.len
  pub names : (ref_at (refs_at c block) i).place ≡ p
  pub key : (row_at (rows_at c block) p).key ≡ k
  pub value : lookup k (cache_at c block).entries ≡ Some (record { expires = (row_at (rows_at c block) p).time; value = held_at c i p block })

-- what `get` answers
abbrev pub GotIs : TimeBoundCache → List ℕ → ℕ → Option Found → Type 0
GotIs c block k (Some f) = GotAt c block k f.entry f.row
GotIs c block k None = lookup k (cache_at c block).entries ≡ None

-- a row more at row i, and nothing else
pub record Opens (c : TimeBoundCache) (i k t : ℕ) (xs ys : List ℕ) : Type 0 where
  pub rest : List ℕ
  pub rows : rows_at (resized c.entries.len (c.expiry.len + 1) c) ys ≡ take i (rows_at c xs) ++ (expiry_row t k rest ∷ drop i (rows_at c xs))
  pub only : Only c.expiry.at ((c.expiry.len + 1) * c.expiry.stride) xs ys

-- other rows of places, and nothing else
pub record Places (c : TimeBoundCache) (es : List Ref) (k : ℕ) (xs ys : List ℕ) : Type 0 where
  pub refs : refs_at c ys ≡ es
  pub only : Only c.entries.at k xs ys

-- a gap among the rows of places, before row j, and nothing else
pub record Gap (c : TimeBoundCache) (j : ℕ) (xs ys : List ℕ) : Type 0 where
  pub gap : Ref
  pub refs : refs_at (resized (c.entries.len + 1) c.expiry.len c) ys ≡ take j (refs_at c xs) ++ (gap ∷ drop j (refs_at c xs))
  pub only : Only c.entries.at ((c.entries.len + 1) * c.entries.stride) xs ys

-- rows of places with one that names row i: over the one that was found, or before the one where it belongs
unfoldable pub placed : Result ℕ ℕ → Ref → List Ref → List Ref
placed (Ok j) r es = put j (r ∷ []) es
placed (Err j) r es = take j es ++ (r ∷ drop j es)

-- what `insert` leaves: the key's entry, at `entry`, names a new row, at `row`, and holds the bytes that stood there
pub record Inserts (c : TimeBoundCache) (k t : ℕ) (xs : List ℕ) (r : Inserted) (ys : List ℕ) : Type 0 where
  pub sized : r.cache ≡ resized r.cache.entries.len (c.expiry.len + 1) c
  pub count : r.cache.entries.len ≤ c.entries.len + 1
  pub entry : r.entry < r.cache.entries.len
  pub row : r.row ≤ c.expiry.len
  pub names : (ref_at (refs_at r.cache ys) r.entry).place ≡ r.row
  pub cache : cache_at r.cache ys ≡ put_in k (held_at r.cache r.entry r.row ys) t (cache_at c xs)
  pub sound : Sound r.cache ys
  pub rows : rows_at r.cache ys ≡ take r.row (rows_at c xs) ++ (expiry_row t k (row_at (rows_at r.cache ys) r.row).rest ∷ drop r.row (rows_at c xs))
  pub found : Result ℕ ℕ
  pub at : FoundIs (named (rows_at c xs) (refs_at c xs)) k found
  pub refs : refs_at r.cache ys ≡ placed found (ref_at (refs_at r.cache ys) r.entry) (map (moved r.row) (refs_at c xs))
  pub only : OnlyTwo c.entries.at ((c.entries.len + 1) * c.entries.stride) c.expiry.at ((c.expiry.len + 1) * c.expiry.stride) xs ys

-- the first k rows are gone, and nothing else has changed
pub record Drops (c : TimeBoundCache) (k : ℕ) (xs ys : List ℕ) : Type 0 where
  pub rows : rows_at (resized c.entries.len (c.expiry.len - k) c) ys ≡ drop k (rows_at c xs)
  pub only : Only c.expiry.at (c.expiry.len * c.expiry.stride) xs ys

-- the rows of places that do not name the first k rows are left, r in number, and nothing else has changed
pub record DropsEntries (c : TimeBoundCache) (k : ℕ) (xs : List ℕ) (r : ℕ) (ys : List ℕ) : Type 0 where
  pub count : r ≤ c.entries.len
  pub refs : refs_at (resized r c.expiry.len c) ys ≡ left k (refs_at c xs)
  pub only : Only c.entries.at (c.entries.len * c.entries.stride) xs ys

-- what `expire_until` leaves: the first rows are gone, and the entries that named them
pub record Expires (c : TimeBoundCache) (t : ℕ) (xs : List ℕ) (r : Expired) (ys : List ℕ) : Type 0 where
  pub sized : r.cache ≡ resized r.cache.entries.len r.cache.expiry.len c
  pub count : r.cache.entries.len + r.removed ≡ c.entries.len
  pub removes : r.removed ≡ length (expired_keys t (cache_at c xs))
  pub cache : cache_at r.cache ys ≡ expire_until t (cache_at c xs)
  pub sound : Sound r.cache ys
  pub fewer : r.cache.expiry.len ≤ c.expiry.len
  pub rows : rows_at r.cache ys ≡ drop (c.expiry.len - r.cache.expiry.len) (rows_at c xs)
  pub refs : refs_at r.cache ys ≡ left (c.expiry.len - r.cache.expiry.len) (refs_at c xs)
  pub only : OnlyTwo c.entries.at (c.entries.len * c.entries.stride) c.expiry.at (c.expiry.len * c.expiry.stride) xs ys
