-- What a block holds: the state that its bytes stand for, or nothing where they stand for none. Question 5 of the specification is asked of that state.
-- Assumes nothing.
use Rattle.std.specs.Prelude.{ℕ, ◌*◌, Bool, false, ◌&&◌, List, [], leb, ltb, eqb, length, take, drop, get_or, if◌then◌else◌, Option, Some, None}
use Rattle.storage.specs.Lists.Base.{all}
use Rattle.storage.specs.Rows.Rows.{rows}
use Rattle.storage.specs.Refs.Refs.{refs, places}
use Rattle.protocol.specs.State.{State, Limits, limits_in_range, block_need}
use Rattle.protocol.specs.Whole.{content_held, whole}
use Rattle.block.specs.Layout.{tables}
use Rattle.block.specs.View.{limits_of, byte_at, view_of, state_of}
use Rattle.block.specs.Header.{word_at, head_in}
use Rattle.block.specs.Sound.{adjoin}
use Rattle.block.specs.declared.head.Head.{Head}
use Rattle.block.specs.declared.head.Live.{Live}

-- the header is there, and its threshold is a round, of 16 bits
unfoldable pub has_header : List ℕ → Bool
has_header block = leb 2048 (length block) && leb (word_at 24 block) 65535

-- the limits are in range, so that they say where the tables are, and the block is as long as question 4 asks, so that it has them
unfoldable pub has_tables : Limits → List ℕ → Bool
has_tables l block = limits_in_range l && leb (block_need l) (length block)

-- no table has more rows than its limit; "Expiry entries: 2R, 2C, 2G"
unfoldable pub counts_within : Limits → Live → Bool
counts_within l v =
    leb v.links l.N
    && leb v.received l.R && leb v.received_rows (2 * l.R)
    && leb v.cached l.C && leb v.cached_rows (2 * l.C) && leb v.contents l.B
    && leb v.grafted l.G && leb v.grafted_rows (2 * l.G)
    && leb v.missing l.S
    && leb v.timers l.T
    && leb v.queued l.Q
    && leb v.dropped l.D

-- each number names one of m rows
abbrev pub all_below : ℕ → List ℕ → Bool
all_below m ns = all (λ n. ltb n m) ns

-- the places of n entries of s bytes name expiry rows, of which there are m
abbrev pub places_name : ℕ → ℕ → ℕ → List ℕ → Bool
places_name m s n entries = all_below m (places (refs s n entries))

-- a list of link numbers and rounds, the first byte the count: at most 32 numbers, and each names a link, of which there are m
unfoldable pub numbers_name : ℕ → List ℕ → Bool
numbers_name m list = leb (byte_at 0 list) 32 && all_below m (take (byte_at 0 list) (drop 1 list))

-- the lists that stand at o in n rows of s bytes pass a test
unfoldable pub all_lists : (List ℕ → Bool) → ℕ → ℕ → ℕ → List ℕ → Bool
all_lists f o s n bytes = all (λ row. f (drop o row)) (rows s n bytes)

-- places and link numbers name rows; contents adjoin, and those of the cached messages add up to what is used of the store
unfoldable pub laid_out : Head → List (List ℕ) → Bool
laid_out h t =
    places_name h.live.received_rows 2 h.live.received (get_or t 2 [])  -- received entries
    && places_name h.live.cached_rows 4 h.live.cached (get_or t 4 [])  -- cached entries
    && places_name h.live.grafted_rows 119 h.live.grafted (get_or t 7 [])  -- grafted entries
    && all_lists (numbers_name h.live.links) 22 119 h.live.grafted (get_or t 7 [])  -- grafted peers
    && all_lists (numbers_name h.live.links) 32 129 h.live.missing (get_or t 9 [])  -- announcers
    && all_below h.live.links (take h.live.queued (get_or t 11 []))  -- queued peers
    && all_below h.live.links (take h.live.dropped (get_or t 13 []))  -- dropped peers
    && adjoin 0 (rows 48 h.live.cached_rows (get_or t 5 [])) h.live.contents  -- contents of the cached rows
    && eqb (content_held (view_of h t)) h.live.contents  -- contents of the cached messages

-- the bytes stand for a state, with the header's numbers h
unfoldable pub holds_with : Head → List ℕ → Bool
holds_with h block =
    has_tables (limits_of h.limits) block
    && counts_within (limits_of h.limits) h.live
    && laid_out h (tables (limits_of h.limits) block)

-- the state that the bytes stand for
unfoldable pub held : List ℕ → Option State
held block =
    if has_header block && holds_with (head_in block) block then Some (state_of (head_in block) block)
    else None

-- what question 5 asks of it; bytes that hold no state are not whole
unfoldable pub whole_held : Option State → Bool
whole_held None = false
whole_held (Some s) = whole s

-- (5) "Is the block whole?"
unfoldable pub whole_block : List ℕ → Bool
whole_block block = whole_held (held block)
