-- A first event's eviction in advance: what it leaves, and the tests of what it leaves, read from the state before the call. Proved equal to `first_event`.
use Rattle.std.specs.Prelude.{ℕ, Bool, true, false, not, ◌&&◌, List, [], ◌∷◌, ◌++◌, map, ltb, eqb, if◌then◌else◌, Option, Some, None}
use Rattle.storage.specs.Lists.Map.{lookup}
use Rattle.time_cache.specs.TimeCache.{Timed, holds, expired_keys, later_cache}
use Rattle.postcard.specs.Message.{Gossip, Prune, Graft, IHave, EvictCache, Event, Received, Broadcast, Fired, Up, Down, Action, Scheduled, Forgotten}
use Rattle.protocol.specs.State.{State, with_init, with_received, with_grafted, with_cache}
use Rattle.protocol.specs.Answer.{last_round}

-- is there, and expires later
unfoldable pub alive_at : {A : Type 0} → ℕ → Option (Timed A) → Bool
alive_at now None = false
alive_at now (Some t) = ltb now t.expires

-- its value, if it expires later
unfoldable pub alive_value : {A : Type 0} → ℕ → Option (Timed A) → Option A
alive_value now None = None
alive_value now (Some t) = if ltb now t.expires then Some t.value else None

-- the state after `first_event`
unfoldable pub settled : ℕ → State → State
settled now s =
    if s.init then s
    else with_init true (with_grafted (later_cache now s.grafted) (with_received (later_cache now s.received) (with_cache (later_cache now s.cache) s)))

-- what an eviction tells: "action 4 with the identifier for each one from the message cache"
unfoldable pub forgotten_actions : ℕ → State → List Action
forgotten_actions now s = map (λ id. Forgotten id) (expired_keys now s.cache)

-- its actions: what it tells, "before its schedule"
unfoldable pub settled_actions : ℕ → State → List Action
settled_actions now s = if s.init then [] else forgotten_actions now s ++ (Scheduled s.settings.cache_evict_interval EvictCache ∷ [])

-- question 12 of the state before: "unreceived once a first event has evicted"
unfoldable pub received_before : ℕ → State → ℕ → Bool
received_before now s id = if s.init then holds id s.received else alive_at now (lookup id s.received.entries)

module _ (hash : List ℕ → ℕ) where
  -- a valid Swarm message of round 65,535, unreceived then
  unfoldable pub too_far_before : ℕ → Event → State → Bool
  too_far_before now (Received p (Gossip id content d)) s = eqb (hash content) id && last_round d && not (received_before now s id)
  too_far_before now (Received p Prune) s = false
  too_far_before now (Received p (Graft wanted round)) s = false
  too_far_before now (Received p (IHave hs)) s = false
  too_far_before now (Broadcast content) s = false
  too_far_before now (Fired t) s = false
  too_far_before now (Up as_quiet p) s = false
  too_far_before now (Down p) s = false
