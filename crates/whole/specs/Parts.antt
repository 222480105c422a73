-- Question 5, table by table: what each test of the code tells. Together these are `whole_block` (proofs/WholeLaws.antt).
-- Assumes nothing.
use Rattle.std.specs.Prelude.{ℕ, Bool, ◌&&◌, ◌||◌, List, [], leb, ltb, eqb, take, drop, get_or}
use Rattle.storage.specs.Lists.Base.{all, count, ascending, once}
use Rattle.storage.specs.Lists.Map.{keys}
use Rattle.storage.specs.Rows.Rows.{rows}
use Rattle.time_cache.specs.TimeCache.{Cache, in_pop_order}
use Rattle.protocol.specs.State.{size_in_range, durations_in_range}
use Rattle.protocol.specs.Whole.{content_held, announcers_whole, grafts_whole, noted_once, record_within}
use Rattle.block.specs.Layout.{table}
use Rattle.block.specs.View.{settings_of, limits_of, byte_at, four_at, state_of}
use Rattle.block.specs.Header.{limits_in}
use Rattle.block.specs.declared.head.Head.{Head}
use Rattle.block.specs.declared.head.Live.{Live}
use Rattle.block.specs.Sound.{adjoin}
use Rattle.whole.specs.Held.{has_header, has_tables, counts_within, all_below, places_name, numbers_name, all_lists}

-- links: their peers ascend
unfoldable pub links_whole : Head → List ℕ → Bool
links_whole h block = ascending (keys (state_of h block).links)

-- a time cache: its places name rows, of which there are m, its keys ascend, its expiry entries stand in pop order
unfoldable pub cache_whole : {A : Type 0} → ℕ → ℕ → ℕ → List ℕ → Cache A → Bool
cache_whole m s n entries c = places_name m s n entries && ascending (keys c.entries) && in_pop_order c.expiry

-- table i of a block
abbrev pub table_of : Head → ℕ → List ℕ → List ℕ
table_of h i block = table (limits_of h.limits) i block

-- received messages
unfoldable pub received_whole : Head → List ℕ → Bool
received_whole h block = cache_whole h.live.received_rows 2 h.live.received (table_of h 2 block) (state_of h block).received

-- the length of the content of cached row p
abbrev pub length_at : List (List ℕ) → ℕ → ℕ
length_at rs p = four_at 44 (get_or rs p [])

-- the message cache's places, keys and expiry entries
abbrev pub cached_in_order : Head → List ℕ → Bool
cached_in_order h block = cache_whole h.live.cached_rows 4 h.live.cached (table_of h 4 block) (state_of h block).cache

-- contents adjoin
abbrev pub contents_adjoin : Head → List ℕ → Bool
contents_adjoin h block = adjoin 0 (rows 48 h.live.cached_rows (table_of h 5 block)) h.live.contents

-- those of the cached messages add up to what is used of the store
abbrev pub contents_used : Head → List ℕ → Bool
contents_used h block = eqb (content_held (state_of h block)) h.live.contents

-- the message cache: also, its contents
unfoldable pub cached_whole : Head → List ℕ → Bool
cached_whole h block = cached_in_order h block && contents_adjoin h block && contents_used h block

-- the list of a grafted message, with m links: its link numbers name links, and ascend
unfoldable pub graft_list : ℕ → List ℕ → Bool
graft_list m list = numbers_name m list && ascending (take (byte_at 0 list) (drop 1 list))

-- the grafted messages' places, keys and expiry entries
abbrev pub grafted_in_order : Head → List ℕ → Bool
grafted_in_order h block = cache_whole h.live.grafted_rows 119 h.live.grafted (table_of h 7 block) (state_of h block).grafted

-- grafted peers are neighbours, once per identifier
abbrev pub grafted_peers : Head → List ℕ → Bool
grafted_peers h block =
    all_lists (numbers_name h.live.links) 22 119 h.live.grafted (table_of h 7 block)
    && all (grafts_whole (state_of h block).links) (state_of h block).grafted.entries

-- grafted messages
unfoldable pub grafted_whole : Head → List ℕ → Bool
grafted_whole h block = grafted_in_order h block && grafted_peers h block

-- the list of a missing message: its link numbers name links, each once, and there is one
unfoldable pub missed_list : ℕ → List ℕ → Bool
missed_list m list = numbers_name m list && (ltb 0 (byte_at 0 list) && once (take (byte_at 0 list) (drop 1 list)))

-- missing messages: keys once
abbrev pub missing_once : Head → List ℕ → Bool
missing_once h block = ascending (keys (state_of h block).missing)

-- their announcers are neighbours, once per identifier, and none of these lists is empty
abbrev pub announcers : Head → List ℕ → Bool
announcers h block =
    all_lists (numbers_name h.live.links) 32 129 h.live.missing (table_of h 9 block)
    && all (announcers_whole (state_of h block).links) (state_of h block).missing

-- missing messages
unfoldable pub missing_whole : Head → List ℕ → Bool
missing_whole h block = missing_once h block && announcers h block

-- graft timers: keys once
unfoldable pub timers_whole : Head → List ℕ → Bool
timers_whole h block = ascending (state_of h block).timers.graft

-- queued peers are neighbours
unfoldable pub queue_whole : Head → List ℕ → Bool
queue_whole h block = all_below h.live.links (take h.live.queued (table_of h 11 block))

-- no number stands more than 256 times
unfoldable pub few : List ℕ → Bool
few ns = all (λ k. leb (count (eqb k) ns) 256) ns

-- recorded peers are neighbours
abbrev pub dropped_named : Head → List ℕ → Bool
dropped_named h block = all_below h.live.links (take h.live.dropped (table_of h 13 block))

-- the record: also, "records within 256 and 4,096", and no identifier twice for one peer
unfoldable pub record_whole : Head → List ℕ → Bool
record_whole h block =
    dropped_named h block
    && record_within (state_of h block).dropped
    && noted_once (state_of h block).dropped

-- all tables
unfoldable pub tables_whole : Head → List ℕ → Bool
tables_whole h block =
    links_whole h block && received_whole h block && cached_whole h block && grafted_whole h block && missing_whole h block
    && timers_whole h block && queue_whole h block && record_whole h block

-- "a queue or record stands only with its flag"
unfoldable pub flags_with : Live → Bool
flags_with v = (eqb v.queued 0 || v.dispatch_timer_scheduled) && (eqb v.dropped 0 || v.announce_dropped_scheduled)

-- the header is there, its limits are in range, and the block is as long as they ask
unfoldable pub has_limits : List ℕ → Bool
has_limits block = has_header block && has_tables (limits_of (limits_in block)) block

-- what is asked of a header that is there, and of the block beside it
unfoldable pub head_whole : Head → List ℕ → Bool
head_whole h block =
    has_tables (limits_of h.limits) block
    && counts_within (limits_of h.limits) h.live
    && size_in_range (settings_of h.settings)
    && durations_in_range (settings_of h.settings)
    && flags_with h.live
    && tables_whole h block
