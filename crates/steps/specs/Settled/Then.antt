-- What is read of an entry that a first event's eviction may remove.
-- Assumes nothing.
use Rattle.std.specs.Prelude.{ℕ, Bool, ◌&&◌, [], ltb, length, if◌then◌else◌, None}
use Rattle.storage.specs.Lists.Base.{is_empty}
use Rattle.storage.specs.Lists.Map.{Entry, entry}
use Rattle.time_cache.specs.TimeCache.{Timed, Cache, due, later_cache}
use Rattle.time_cache.specs.Tables.{ValueBytes, value_bytes}
use Rattle.protocol.specs.State.{State, Cached, Grafts}

-- what stands where there is no entry
abbrev pub no_held : Entry (Timed ValueBytes)
no_held = entry 0 (record { expires = 0; value = value_bytes [] [] })

-- what stands where there is no cached message
abbrev pub no_cached : Entry (Timed Cached)
no_cached = entry 0 (record { expires = 0; value = record { content = []; round = 0 } })

-- what stands where there is no grafted message
abbrev pub no_grafted : Entry (Timed Grafts)
no_grafted = entry 0 (record { expires = 0; value = record { first = None; kept = None; peers = [] } })

-- a time cache once a first event has evicted: as it is where `init` is set already
abbrev pub left_then : {A : Type 0} → Bool → ℕ → Cache A → Cache A
left_then init now c = if init then c else later_cache now c

-- no row of a time cache is due
abbrev pub none_due : ℕ → State → Bool
none_due now s = is_empty (due now s.received.expiry) && is_empty (due now s.cache.expiry) && is_empty (due now s.grafted.expiry)

-- the bytes of a content that expires later
abbrev pub later_bytes : ℕ → Entry (Timed Cached) → ℕ
later_bytes now e = if ltb now e.value.expires then length e.value.value.content else 0
