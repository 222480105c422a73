-- `whole` (question 5) as records, without the limits (question 13): what each step of a call finds and keeps. Proved to be `whole` with `fits` (`whole-consistent`, `whole-ranged`, `consistent-whole`).
use Rattle.std.specs.Prelude.{ℕ, ◌≤◌, ◌≡◌, Bool, true, ◌||◌, List, leb, length}
use Rattle.storage.specs.Lists.Base.{is_empty, all, count, ascending}
use Rattle.storage.specs.Lists.Map.{Map, keys}
use Rattle.time_cache.specs.TimeCache.{Cache, Timely}
use Rattle.protocol.specs.Links.{Links, is_neighbour}
use Rattle.protocol.specs.State.{State, Note, Hop, Grafts, Cached, size_in_range, durations_in_range, limits_in_range}
use Rattle.protocol.specs.Push.{for_peer}
use Rattle.protocol.specs.Whole.{announcers_whole, grafts_whole, noted_once}
use Rattle.protocol.specs.declared.TheConstants.{MAX_DROPPED_PER_PEER, MAX_DROPPED}

-- "records within 256 and 4,096"
pub record Within (ns : List Note) : Type 0 where
  pub each : (p : ℕ) → count (for_peer p) ns ≤ MAX_DROPPED_PER_PEER
  pub in_all : length ns ≤ MAX_DROPPED

-- "a queue or record stands only with its flag"
abbrev pub Flagged : List Note → Bool → Type 0
Flagged ns flag = (is_empty ns || flag) ≡ true

-- of a neighbour
abbrev pub by_neighbour : Links → Note → Bool
by_neighbour l n = is_neighbour n.peer l

-- all but the flags
pub record Core (links : Links) (queue dropped : List Note) (missing : Map (List Hop)) (received : Cache (Unit {0})) (grafted : Cache Grafts) (cache : Cache Cached) (timers : List ℕ) : Type 0 where
  -- "keys once" (and, here, ascending)
  pub links_up : ascending (keys links) ≡ true
  pub missing_up : ascending (keys missing) ≡ true
  pub timers_up : ascending timers ≡ true
  -- the time caches
  pub received_on : Timely received
  pub grafted_on : Timely grafted
  pub cache_on : Timely cache
  -- "queued, dropped, announcing and grafted peers are neighbours, once per identifier among announcers, grafted and dropped"
  pub queued : all (by_neighbour links) queue ≡ true
  pub recorded : all (by_neighbour links) dropped ≡ true
  pub announcing : all (announcers_whole links) missing ≡ true
  pub grafting : all (grafts_whole links) grafted.entries ≡ true
  pub noted : noted_once dropped ≡ true
  pub within : Within dropped

-- of a state; a change of settings, limits, flags leaves it the same type
abbrev pub CoreOf : State → Type 0
CoreOf s = Core s.links s.queue s.dropped s.missing s.received s.grafted s.cache s.timers.graft

-- with the flags of queue and record
pub record Consistent (s : State) : Type 0 where
  pub core : CoreOf s
  pub queue_flag : Flagged s.queue s.timers.dispatch
  pub record_flag : Flagged s.dropped s.timers.announce

-- "settings, limits and numbers of entries in range", the numbers of entries apart; the threshold is a 16-bit number
pub record Ranged (s : State) : Type 0 where
  pub size : size_in_range s.settings ≡ true
  pub durations : durations_in_range s.settings ≡ true
  pub threshold : leb s.settings.optimization_threshold 65535 ≡ true
  pub limits : limits_in_range s.limits ≡ true
