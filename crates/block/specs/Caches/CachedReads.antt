-- What is read from a cached message.
-- Assumes nothing.
use Rattle.std.specs.Prelude.{ℕ, ◌≡◌, List, [], get_or, Option, Some, None, option_map}
use Rattle.storage.specs.Lists.Map.{entry}
use Rattle.time_cache.specs.Tables.{refs_at}
use Rattle.time_cache.specs.Steps.{ref_at}
use Rattle.time_cache.specs.Gone.{key_of_row}
use Rattle.protocol.specs.State.{State, Cached}
use Rattle.block.specs.TimeCaches.{cached_cache}
use Rattle.block.specs.declared.head.Head.{Head}
use Rattle.postcard.specs.declared.units.Round.{Round}
use Rattle.block.specs.declared.caches.cached.CachedMessage.{CachedMessage}

-- cached message i
abbrev pub cached_at : State → ℕ → Cached
cached_at s i = (get_or s.cache.entries i (entry 0 (record { expires = 0; value = record { content = []; round = 0 } }))).value.value

-- the row that cached message i has
abbrev pub row_of : Head → List ℕ → ℕ → ℕ
row_of h block i = (ref_at (refs_at (cached_cache h) block) i).place

-- the identifier of an expiry row
abbrev pub row_id : Head → List ℕ → ℕ → ℕ
row_id h block row = key_of_row (cached_cache h) block row

-- a cached message that was looked up
abbrev pub cached_value : Option CachedMessage → Option Cached
cached_value = option_map (λ m. record { content = m.content.now; round = m.round.0 })

-- its round alone
abbrev pub RoundOf : Option Round → Option Cached → Type 0
RoundOf None c = c ≡ None
RoundOf (Some r) c = (content : List ℕ) × (c ≡ Some (record { content = content; round = r.0 }))
