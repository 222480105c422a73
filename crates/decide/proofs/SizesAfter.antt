-- The sizes of the state after a step, as functions of the state before it; `s` is the state that a first event leaves (`settled`) unless a comment says otherwise.
-- Proved equal to the lengths of that state; no contract cites them.
use Rattle.std.proofs.Common.{if◌then◌else◌, ℕ, suc, ◌+◌, ◌-◌, not, List, [], ◌∷◌, ltb, eqb, length, Option, Some, None}
use Rattle.storage.specs.Lists.Base.{is_empty, filter, count, member, sum}
use Rattle.storage.specs.Lists.Map.{keys, has}
use Rattle.time_cache.specs.TimeCache.{holds, get}
use Rattle.protocol.specs.Links.{is_neighbour, lazy_peers}
use Rattle.postcard.specs.Message.{Ihave}
use Rattle.protocol.specs.State.{State, Hop, Cached}
use Rattle.protocol.specs.Run.{Room}
use Rattle.protocol.specs.Push.{for_peer, eager_targets}
use Rattle.protocol.specs.Gossips.{announcers, grafted_for}
use Rattle.protocol.specs.Ticks.{oldest, younger, still_cached}
use Rattle.protocol.specs.Neighbours.{without_announcer}
use Rattle.protocol.specs.Whole.{content_held}
use Rattle.decide.specs.Sizes.{Sizes, sizes_of, sized_links, sized_missing, sized_timers, sized_queued, sized_recorded, sized_grafted, sized_grafted_expiry, sized_received, sized_received_expiry, sized_cached, sized_cached_expiry, sized_content, grown, shrunk}
use Rattle.decide.specs.Rooms.{back_peers}
use Rattle.decide.specs.RecordGrowth.{push_gains}
use Rattle.decide.specs.NewIds.{new_ids, known_missing, known_timer}

-- neighbour down, of the state before: nothing grows
unfoldable pub down_sizes : ℕ → State → Sizes
down_sizes p s =
    sized_links (shrunk (is_neighbour p s.links) (length s.links))
    (sized_missing (count (λ e. not (is_empty (without_announcer p e.value))) s.missing)
    (sized_queued (count (λ n. not (for_peer p n)) s.queue)
    (sized_recorded (count (λ n. not (for_peer p n)) s.dropped) (sizes_of s))))

-- EvictCache: what is later stays, nothing grows
unfoldable pub evict_sizes : ℕ → State → Sizes
evict_sizes now s =
    sized_received (count (λ e. ltb now e.value.expires) s.received.entries)
    (sized_received_expiry (count (λ x. ltb now x.time) s.received.expiry)
    (sized_cached (count (λ e. ltb now e.value.expires) s.cache.entries)
    (sized_cached_expiry (count (λ x. ltb now x.time) s.cache.expiry)
    (sized_content (sum (λ e. if ltb now e.value.expires then length e.value.value.content else 0) s.cache.entries)
    (sized_grafted (count (λ e. ltb now e.value.expires) s.grafted.entries)
    (sized_grafted_expiry (count (λ x. ltb now x.time) s.grafted.expiry) (sizes_of s)))))))

-- the sizes of the settled state, of the state before
unfoldable pub settled_sizes : ℕ → State → Sizes
settled_sizes now s = if s.init then sizes_of s else evict_sizes now s

-- AnnounceDropped
unfoldable pub announce_sizes : State → Sizes
announce_sizes s = sized_queued (length s.queue + length (oldest [] (still_cached s))) (sized_recorded (length (younger [] (still_cached s))) (sizes_of s))

-- SendGraft: the timer mark goes
unfoldable pub unmarked_sizes : ℕ → State → Sizes
unmarked_sizes id s = sized_timers (shrunk (member id s.timers.graft) (length s.timers.graft)) (sizes_of s)

-- the first announcer is asked
unfoldable pub ask_sizes : ℕ → List Hop → State → Sizes
ask_sizes id [] s = unmarked_sizes id s
ask_sizes id (h ∷ hs) s =
    sized_missing (if is_empty hs then length s.missing - 1 else length s.missing)
    (sized_grafted (grown (holds id s.grafted) (length s.grafted.entries))
    (sized_grafted_expiry (grown (holds id s.grafted) (length s.grafted.expiry)) (unmarked_sizes id s)))

-- SendGraft
unfoldable pub send_graft_sizes : ℕ → State → Sizes
send_graft_sizes id s = if holds id s.received then unmarked_sizes id s else ask_sizes id (announcers id s) s

-- IHave from a neighbour
unfoldable pub ihave_sizes : List Ihave → State → Sizes
ihave_sizes hs s =
    sized_missing (length s.missing + length (new_ids (known_missing s) [] hs))
    (sized_timers (length s.timers.graft + length (new_ids (known_timer s) [] hs)) (sizes_of s))

-- the content bytes cached for the identifier so far
unfoldable pub content_length : Option Cached → ℕ
content_length None = 0
content_length (Some c) = length c.content

-- a message taken in: received and cached, queued for the lazy peers but the sender
unfoldable pub taken_sizes : ℕ → List ℕ → ℕ → State → Sizes
taken_sizes id content sender s =
    sized_received (grown (holds id s.received) (length s.received.entries))
    (sized_received_expiry (suc (length s.received.expiry))
    (sized_cached (grown (holds id s.cache) (length s.cache.entries))
    (sized_cached_expiry (suc (length s.cache.expiry))
    (sized_content ((content_held s - content_length (get id s.cache)) + length content)
    (sized_queued (length s.queue + length (filter (λ p. not (eqb p sender)) (lazy_peers s.links))) (sizes_of s))))))

-- a new Swarm message
unfoldable pub new_sizes : List Room → ℕ → ℕ → List ℕ → State → Sizes
new_sizes rooms sender id content s =
    sized_missing (shrunk (has id s.missing) (length s.missing))
    (sized_timers (shrunk (member id s.timers.graft) (length s.timers.graft))
    (sized_recorded (length s.dropped + push_gains id s.dropped 0 (back_peers rooms (eager_targets sender (keys (grafted_for id s)) s))) (taken_sizes id content sender s)))
