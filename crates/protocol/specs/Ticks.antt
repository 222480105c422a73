-- The specification, "Ticks": `on_dispatch_timer`, `on_announce_dropped_timer`, `on_evict_cache_timer`.
use Rattle.std.specs.Prelude.{ℕ, zero, suc, false, List, [], ◌∷◌, ◌++◌, map, ltb, length, take, drop, if◌then◌else◌}
use Rattle.storage.specs.Lists.Base.{◌▷◌, is_empty, filter, count}
use Rattle.storage.specs.Lists.Map.{insert_key}
use Rattle.time_cache.specs.TimeCache.{holds, expire_until, expired_keys}
use Rattle.postcard.specs.Message.{Ihave, EvictCache, Forgotten}
unfoldable pub use Rattle.postcard.specs.Sizes.{per_message}
use Rattle.protocol.specs.State.{State, Note, with_queue, with_dropped, with_cache, with_received, with_grafted, with_dispatch_scheduled, with_announce_scheduled}
use Rattle.protocol.specs.Run.{Run, with_state, schedule}
use Rattle.protocol.specs.Push.{for_peer, send_ihave, schedule_dispatch, schedule_announce_dropped}
use Rattle.protocol.specs.declared.TheConstants.{DROPPED_PER_TICK}

-- the list in pieces of at most `k`, at most `pieces` of them
unfoldable pub chunks : ℕ → ℕ → List Ihave → List (List Ihave)
chunks zero k hs = []
chunks (suc pieces) k [] = []
chunks (suc pieces) k (h ∷ hs) = take k (h ∷ hs) ∷ chunks pieces k (drop k (h ∷ hs))

-- what is queued for the peer, in order
unfoldable pub queued_for : ℕ → List Note → List Ihave
queued_for p ns = map (λ n. record { id = n.id; round = n.round }) (filter (for_peer p) ns)

-- "peers ascending": those for whom something is queued
unfoldable pub queued_peers : List Note → List ℕ
queued_peers [] = []
queued_peers (n ∷ ns) = insert_key n.peer (queued_peers ns)

-- each message in turn; "handed back are noted"
unfoldable pub send_chunks : ℕ → List (List Ihave) → Run → Run
send_chunks p [] r = r
send_chunks p (hs ∷ rest) r = send_chunks p rest (send_ihave p hs r)

-- each peer in turn, with all that is queued for it
unfoldable pub dispatch_to : List ℕ → ℕ → List Note → Run → Run
dispatch_to [] k ns r = r
dispatch_to (p ∷ ps) k ns r = dispatch_to ps k ns (send_chunks p (chunks (length ns) k (queued_for p ns)) r)

-- the flag goes at the end
unfoldable pub clear_dispatch : Run → Run
clear_dispatch r = r ▷ with_state (with_dispatch_scheduled false r.state)

-- `on_dispatch_timer`: "Dispatch empties the queue"
unfoldable pub on_dispatch_timer : Run → Run
on_dispatch_timer r =
    r ▷ with_state (with_queue [] r.state)
    ▷ dispatch_to (queued_peers r.state.queue) (per_message r.state.settings.max_message_size) r.state.queue
    ▷ clear_dispatch

-- "the oldest 64 per peer": `seen` are the entries passed so far
unfoldable pub oldest : List Note → List Note → List Note
oldest seen [] = []
oldest seen (n ∷ ns) = if ltb (count (for_peer n.peer) seen) DROPPED_PER_TICK then n ∷ oldest (n ∷ seen) ns else oldest (n ∷ seen) ns

-- the others
unfoldable pub younger : List Note → List Note → List Note
younger seen [] = []
younger seen (n ∷ ns) = if ltb (count (for_peer n.peer) seen) DROPPED_PER_TICK then younger (n ∷ seen) ns else n ∷ younger (n ∷ seen) ns

-- "drops uncached identifiers, moves the oldest 64 per peer to its queue"
unfoldable pub move_oldest : List Note → State → State
move_oldest standing s =
    s ▷ with_queue (s.queue ++ oldest [] standing) ▷ with_dropped (younger [] standing) ▷ with_announce_scheduled false

-- the recorded identifiers that are still cached
unfoldable pub still_cached : State → List Note
still_cached s = filter (λ n. holds n.id s.cache) s.dropped

-- "schedules dispatch if a queue stands"
unfoldable pub dispatch_if_queued : Run → Run
dispatch_if_queued r = if is_empty r.state.queue then r else schedule_dispatch r

-- `on_announce_dropped_timer`
unfoldable pub on_announce_dropped_timer : Run → Run
on_announce_dropped_timer r =
    r ▷ with_state (move_oldest (still_cached r.state) r.state) ▷ dispatch_if_queued ▷ schedule_announce_dropped

-- "EvictCache expires message cache, received and grafted, in that order"
unfoldable pub evict : ℕ → State → State
evict now s =
    s ▷ with_cache (expire_until now s.cache) ▷ with_received (expire_until now s.received) ▷ with_grafted (expire_until now s.grafted)

-- "action 4 with the identifier for each one"
abbrev pub tell_forgotten : List ℕ → Run → Run
tell_forgotten ids r = record { state = r.state; counts = r.counts; rooms = r.rooms; actions = r.actions ++ map (λ id. Forgotten id) ids }

-- `on_evict_cache_timer`: tells what leaves the message cache, "before its schedule"; "then schedules itself"
unfoldable pub on_evict_cache_timer : ℕ → Run → Run
on_evict_cache_timer now r =
    r ▷ tell_forgotten (expired_keys now r.state.cache) ▷ with_state (evict now r.state) ▷ schedule r.state.settings.cache_evict_interval EvictCache
