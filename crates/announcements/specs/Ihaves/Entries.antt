-- The entries of an IHave by their identifiers: each counts at its first place in the message.
-- Assumes nothing.
use Rattle.std.specs.Prelude.{ℕ, Bool, ◌||◌, List, [], ◌∷◌, eqb, if◌then◌else◌, Option, Some, None}
use Rattle.storage.specs.Lists.Base.{member}
use Rattle.storage.specs.Lists.Map.{Map, lookup, insert}
use Rattle.time_cache.specs.TimeCache.{holds}
use Rattle.postcard.specs.Message.{Ihave}
use Rattle.protocol.specs.State.{State, Hop}
use Rattle.protocol.specs.Gossips.{hops_of}
use Rattle.protocol.specs.Control.{add_announcer}
use Rattle.block.specs.MissingSteps.{hop}

-- an entry whose message is received
abbrev pub is_received : State → Ihave → Bool
is_received s h = holds h.id s.received

-- the entries whose identifier is not known, each at its first place in the message; `seen` stood before
unfoldable pub new_entries : (ℕ → Bool) → List ℕ → List Ihave → List Ihave
new_entries known seen [] = []
new_entries known seen (h ∷ hs) =
    if known h.id || member h.id seen then new_entries known (h.id ∷ seen) hs else h ∷ new_entries known (h.id ∷ seen) hs

-- the round of the first entry of an identifier
unfoldable pub round_of : ℕ → List Ihave → Option ℕ
round_of j [] = None
round_of j (h ∷ hs) = if eqb j h.id then Some h.round else round_of j hs

-- the missing messages where a peer announced these, one after the other
unfoldable pub announced_in : ℕ → List Ihave → Map (List Hop) → Map (List Hop)
announced_in p [] m = m
announced_in p (h ∷ hs) m = announced_in p hs (insert h.id (add_announcer (hop p h.round) (hops_of (lookup h.id m))) m)
