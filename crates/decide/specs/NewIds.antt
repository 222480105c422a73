-- The identifiers of an IHave that are not known.
use Rattle.std.specs.Prelude.{if◌then◌else◌, ℕ, Bool, ◌||◌, List, [], ◌∷◌}
use Rattle.storage.specs.Lists.Base.{member}
use Rattle.storage.specs.Lists.Map.{has}
use Rattle.time_cache.specs.TimeCache.{holds}
use Rattle.postcard.specs.Message.{Ihave}
use Rattle.protocol.specs.State.{State}

-- the identifiers that are not known, each at its first place in the message; `seen` stood before
unfoldable pub new_ids : (ℕ → Bool) → List ℕ → List Ihave → List ℕ
new_ids known seen [] = []
new_ids known seen (h ∷ hs) =
    if known h.id || member h.id seen then new_ids known (h.id ∷ seen) hs else h.id ∷ new_ids known (h.id ∷ seen) hs

-- an announced identifier that adds no missing entry
unfoldable pub known_missing : State → ℕ → Bool
known_missing s i = holds i s.received || has i s.missing

-- one that adds no timer mark
unfoldable pub known_timer : State → ℕ → Bool
known_timer s i = holds i s.received || member i s.timers.graft
