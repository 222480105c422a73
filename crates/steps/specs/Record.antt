-- `note_dropped` of a cached identifier for the peer of a link.
-- Assumes nothing.
use Rattle.std.specs.Prelude.{ℕ, ◌≡◌, ◌≤◌, ◌<◌, true, Bool, not, ◌&&◌, List, ◌++◌, map, length}
use Rattle.storage.specs.Lists.Base.{any, ascending}
use Rattle.storage.specs.Lists.Map.{keys}
use Rattle.time_cache.specs.TimeCache.{holds}
use Rattle.protocol.specs.State.{State, Note, with_dropped}
use Rattle.protocol.specs.Push.{notes, record_full}
use Rattle.block.specs.LinkSteps.{peer_at}
use Rattle.block.specs.NoteSteps.{note, standing}
use Rattle.steps.specs.Pushes.Noted.{noted}

-- "not already there is added unless the peer has 256 or all have 4,096"
abbrev pub takes_note : ℕ → ℕ → List Note → Bool
takes_note p id ds = not (record_full p ds) && not (any (notes p id) ds)

-- what noting asks: links that ascend, a link among them, a cached identifier, and room for what is recorded then
pub record Notable (l id round : ℕ) (s : State) : Type 0 where
  pub up : ascending (keys s.links) ≡ true
  pub link : l < length s.links
  pub cached : holds id s.cache ≡ true
  pub room : length (noted l id round s) ≤ s.limits.D

-- the note of an identifier for a link
abbrev pub note_of : State → ℕ → ℕ → ℕ → Note
note_of s id round l = note (peer_at s l) id round

-- the record with such a note for each of these links
abbrev pub with_these : List ℕ → ℕ → ℕ → State → List Note
with_these ls id round s = s.dropped ++ map (note_of s id round) ls

-- that record, which stands with its flag
abbrev pub these_noted : List ℕ → ℕ → ℕ → State → State
these_noted ls id round s = standing (with_dropped (with_these ls id round s) s)
