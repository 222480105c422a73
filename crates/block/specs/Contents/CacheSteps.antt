-- The steps of the message cache, and what stands between the two stages of one.
-- Assumes nothing.
use Rattle.std.specs.Prelude.{ℕ, ◌+◌, ◌-◌, ◌*◌, ◌≡◌, List, [], ◌∷◌, ◌++◌, length, take, drop, get_or, set, Option, Some, None}
use Rattle.storage.specs.Rows.Part.{part, put as put_at}
use Rattle.storage.specs.Refs.Refs.{Below, refs, places}
use Rattle.time_cache.specs.TimeCache.{Cache, get, put, replace, expire_until}
use Rattle.time_cache.specs.Tables.{ExpiryRow, row_at, expiry_of, expiry_rows}
use Rattle.protocol.specs.State.{State, Cached, with_cache}
use Rattle.storage.specs.Rows.Digits.{le_bytes}
use Rattle.block.specs.Layout.{place, tables, table}
use Rattle.block.specs.View.{limits_of, cached_in}
use Rattle.block.specs.Fit.{Fit}
use Rattle.block.specs.Heads.{with_cached_counts}
use Rattle.block.specs.Sound.{AllNumbered, held}
use Rattle.block.specs.declared.head.Head.{Head}
use Rattle.block.specs.Contents.Starts.{start_of, len_of, extent_in, first_start, RowsAdjoin, Along}

-- `expire_until` of the message cache
abbrev pub cached_left : ℕ → State → State
cached_left instant s = with_cache (expire_until instant s.cache) s

-- a cached message
abbrev pub message : List ℕ → ℕ → Cached
message content round = record { content = content; round = round }

-- "cache at" a round, until an instant
abbrev pub cached_also : ℕ → List ℕ → ℕ → ℕ → State → State
cached_also id content round expires s = with_cache (put id (message content round) expires s.cache) s

-- what the layout needs of all tables but those of the message cache
pub record Others (h : Head) (t : List (List ℕ)) : Type 0 where
  pub received : Below h.live.received_rows (places (refs 2 h.live.received (get_or t 2 [])))
  pub grafted : Below h.live.grafted_rows (places (refs 119 h.live.grafted (get_or t 7 [])))
  pub grafts : AllNumbered h.live.links 22 119 h.live.grafted (get_or t 7 [])
  pub missing : AllNumbered h.live.links 32 129 h.live.missing (get_or t 9 [])
  pub queue : Below h.live.links (take h.live.queued (get_or t 11 []))
  pub dropped : Below h.live.links (take h.live.dropped (get_or t 13 []))

-- all that is asked of a block, but that the contents may start after the start of their table
pub record Ahead (h : Head) (block : List ℕ) : Type 0 where
  pub fit : Fit h block
  pub others : Others h (tables (limits_of h.limits) block)
  pub places : Below h.live.cached_rows (places (refs 4 h.live.cached (table (limits_of h.limits) 4 block)))
  pub chain : RowsAdjoin (first_start h.live.contents (expiry_rows 48 h.live.cached_rows (table (limits_of h.limits) 5 block))) (expiry_rows 48 h.live.cached_rows (table (limits_of h.limits) 5 block)) h.live.contents
  pub used : first_start h.live.contents (expiry_rows 48 h.live.cached_rows (table (limits_of h.limits) 5 block))
      + held (cached_in (table (limits_of h.limits) 6 block) h.live.cached (table (limits_of h.limits) 4 block) h.live.cached_rows (table (limits_of h.limits) 5 block)).entries
      ≡ h.live.contents

-- the starts of the rows from j on went up and then down, and nothing else has changed
pub record Shifts (h : Head) (j up down : ℕ) (xs ys : List ℕ) : Type 0 where
  pub later : List ExpiryRow
  pub along : Along up down (drop j (expiry_rows 48 h.live.cached_rows (table (limits_of h.limits) 5 xs))) later
  pub rows : expiry_rows 48 h.live.cached_rows (table (limits_of h.limits) 5 ys) ≡ take j (expiry_rows 48 h.live.cached_rows (table (limits_of h.limits) 5 xs)) ++ later
  pub tables : tables (limits_of h.limits) ys ≡ set (tables (limits_of h.limits) xs) 5 (table (limits_of h.limits) 5 ys)

-- another content for a cached message, its round and expiry kept
unfoldable pub refill_with : ℕ → List ℕ → Option Cached → Cache Cached → Cache Cached
refill_with id content None c = c
refill_with id content (Some v) c = replace id (record { content = content; round = v.round }) c

-- the same, of the entry that is there or not
abbrev pub refill : ℕ → List ℕ → Cache Cached → Cache Cached
refill id content c = refill_with id content (get id c) c

-- the same, of the state
abbrev pub refilled : ℕ → List ℕ → State → State
refilled id content s = with_cache (refill id content s.cache) s

-- the cached rows of a block
abbrev pub cached_rows : Head → List ℕ → List ExpiryRow
cached_rows h block = expiry_rows 48 h.live.cached_rows (table (limits_of h.limits) 5 block)

-- the content of row p is another: the contents behind it, and their starts, have moved, and nothing else has changed
pub record Resized (h : Head) (p : ℕ) (content xs : List ℕ) (r : Head) (ys : List ℕ) : Type 0 where
  pub head : r ≡ with_cached_counts h.live.cached h.live.cached_rows (h.live.contents - len_of (row_at (cached_rows h xs) p) + length content) h
  pub row : ExpiryRow
  pub expiry : expiry_of row ≡ expiry_of (row_at (cached_rows h xs) p)
  pub start : start_of row ≡ start_of (row_at (cached_rows h xs) p)
  pub len : len_of row ≡ length content
  pub later : List ExpiryRow
  pub along : Along (length content) (len_of (row_at (cached_rows h xs) p)) (drop (p + 1) (cached_rows h xs)) later
  pub rows : cached_rows h ys ≡ take p (cached_rows h xs) ++ (row ∷ later)
  pub store : table (limits_of h.limits) 6 ys
      ≡ put_at (start_of (row_at (cached_rows h xs) p)) content
      (put_at (start_of (row_at (cached_rows h xs) p) + length content)
      (part (start_of (row_at (cached_rows h xs) p) + len_of (row_at (cached_rows h xs) p)) (h.live.contents - start_of (row_at (cached_rows h xs) p) - len_of (row_at (cached_rows h xs) p)) (table (limits_of h.limits) 6 xs))
      (table (limits_of h.limits) 6 xs))
  pub tables : tables (limits_of h.limits) ys ≡ set (set (tables (limits_of h.limits) xs) 6 (table (limits_of h.limits) 6 ys)) 5 (table (limits_of h.limits) 5 ys)
  pub long : length ys ≡ length xs

-- an entry at round, and its row with a content of no bytes that starts at s
pub record Emptied (h : Head) (i j s round : ℕ) (xs ys : List ℕ) : Type 0 where
  pub bytes : List ℕ
  pub long : length bytes ≡ 8
  pub holds : extent_in bytes ≡ (s, 0)
  pub put : ys ≡ put_at (place (limits_of h.limits) 4 + (i * 4 + 2)) (le_bytes 2 round) (put_at (place (limits_of h.limits) 5 + (j * 48 + 40)) bytes xs)
