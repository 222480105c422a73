-- "What was forgotten": "The screen counts as right if with these actions struck out the list is the Rust's, and the struck ones are, in order, just the
-- identifiers that evictions in the call removed from that cache."
use Rattle.std.specs.Prelude.{ℕ, ◌≡◌, Bool, true, false, not, ◌&&◌, List, [], ◌∷◌, ◌++◌, if◌then◌else◌}
use Rattle.storage.specs.Lists.Base.{◌▷◌, filter, member, once}
use Rattle.time_cache.specs.TimeCache.{Cache, holds, expire_until, expired_keys}
use Rattle.postcard.specs.Message.{Timer, SendGraft, DispatchLazyPush, EvictCache, AnnounceDropped, Event, Received, Broadcast, Fired, Up, Down, Action, Sent, Scheduled, Emitted, Forgotten}
use Rattle.protocol.specs.State.{State, Counts, Cached, with_init}
use Rattle.protocol.specs.Run.{Run, Room, begin, with_state, schedule}
use Rattle.protocol.specs.Gossips.{broadcast}
use Rattle.protocol.specs.Control.{on_send_graft_timer}
use Rattle.protocol.specs.Ticks.{evict, on_dispatch_timer, on_announce_dropped_timer}
use Rattle.protocol.specs.Neighbours.{on_neighbor_up, on_neighbor_down}
use Rattle.protocol.specs.Handle.{handle_message, handle}
use Rattle.protocol.specs.Whole.{whole}

-- "the list is the Rust's": its eviction tells nothing; all other steps are those of specs/Handle

-- the Rust's `on_evict_cache_timer`
unfoldable pub rust_evict : ℕ → Run → Run
rust_evict now r = r ▷ with_state (evict now r.state) ▷ schedule r.state.settings.cache_evict_interval EvictCache

-- the Rust's first event
unfoldable pub rust_first : ℕ → Run → Run
rust_first now r = if r.state.init then r else (r ▷ with_state (with_init true r.state) ▷ rust_evict now)

-- a timer fires, in the Rust
unfoldable pub rust_timer : ℕ → Timer → Run → Run
rust_timer now (SendGraft id) r = on_send_graft_timer now id r
rust_timer now DispatchLazyPush r = on_dispatch_timer r
rust_timer now EvictCache r = rust_evict now r
rust_timer now AnnounceDropped r = on_announce_dropped_timer r

module _ (hash : List ℕ → ℕ) where
  -- the Rust's `handle`
  unfoldable pub rust_handle : ℕ → Event → Run → Run
  rust_handle now (Received p m) r = r ▷ rust_first now ▷ handle_message hash now p m
  rust_handle now (Broadcast content) r = r ▷ rust_first now ▷ broadcast hash now content
  rust_handle now (Fired t) r = r ▷ rust_first now ▷ rust_timer now t
  rust_handle now (Up as_quiet p) r = on_neighbor_up as_quiet p r
  rust_handle now (Down p) r = on_neighbor_down p r

-- an action 4
unfoldable pub is_forgotten : Action → Bool
is_forgotten (Sent p taken m) = false
is_forgotten (Scheduled delay t) = false
is_forgotten (Emitted p content d) = false
is_forgotten (Forgotten id) = true

-- "with these actions struck out"
unfoldable pub struck : List Action → List Action
struck xs = filter (λ a. not (is_forgotten a)) xs

-- its identifier
unfoldable pub told_by : Action → List ℕ
told_by (Sent p taken m) = []
told_by (Scheduled delay t) = []
told_by (Emitted p content d) = []
told_by (Forgotten id) = id ∷ []

-- "the struck ones", "in order"
unfoldable pub told : List Action → List ℕ
told [] = []
told (a ∷ xs) = told_by a ++ told xs

-- what a first event's eviction removes from the message cache
unfoldable pub evicted_first : ℕ → State → List ℕ
evicted_first now s = if s.init then [] else expired_keys now s.cache

-- the message cache that a first event leaves
unfoldable pub cache_first : ℕ → State → Cache Cached
cache_first now s = if s.init then s.cache else expire_until now s.cache

-- "the identifiers that evictions in the call removed from that cache": one by the first event, one by EvictCache
unfoldable pub evicted_in : ℕ → Event → State → List ℕ
evicted_in now (Received p m) s = evicted_first now s
evicted_in now (Broadcast content) s = evicted_first now s
evicted_in now (Fired (SendGraft id)) s = evicted_first now s
evicted_in now (Fired DispatchLazyPush) s = evicted_first now s
evicted_in now (Fired EvictCache) s = evicted_first now s ++ expired_keys now (cache_first now s)
evicted_in now (Fired AnnounceDropped) s = evicted_first now s
evicted_in now (Up as_quiet p) s = []
evicted_in now (Down p) s = []

-- what a call makes beside what the Rust makes
pub record BesideRust (ours rust : Run) : Type 0 where
  pub state : ours.state ≡ rust.state
  pub counts : ours.counts ≡ rust.counts
  pub actions : struck ours.actions ≡ rust.actions

-- the screen is right: at every event, time, link room and counts, upon every whole state
pub record ScreenRight (hash : List ℕ → ℕ) : Type 0 where
  -- "with these actions struck out the list is the Rust's"
  pub rust : (now : ℕ) (e : Event) (s : State) (c : Counts) (rooms : List Room) → whole s ≡ true → BesideRust (handle hash now e (begin s c rooms)) (rust_handle hash now e (begin s c rooms))
  -- "the struck ones are, in order, just the identifiers that evictions in the call removed"
  pub screen : (now : ℕ) (e : Event) (s : State) (c : Counts) (rooms : List Room) → whole s ≡ true → told (handle hash now e (begin s c rooms)).actions ≡ evicted_in now e s
  -- which are those that the cache held and holds no more, each once
  pub gone : (now k : ℕ) (s : State) → whole s ≡ true → member k (expired_keys now s.cache) ≡ (holds k s.cache && not (holds k (expire_until now s.cache)))
  pub each : (now : ℕ) (s : State) → whole s ≡ true → once (expired_keys now s.cache) ≡ true
