-- Which rows of the record are of identifiers that are cached.
-- Assumes nothing.
use Rattle.std.specs.Prelude.{ℕ, ◌≡◌, ◌≤◌, ◌<◌, Bool, false, List, length, get_or}
use Rattle.time_cache.specs.TimeCache.{holds}
use Rattle.protocol.specs.State.{State}
use Rattle.block.specs.NoteSteps.{note_at}

-- the first rows of the record are told as they are: cached, or not
pub record CachedTold (s : State) (upto : ℕ) (cached : List Bool) : Type 0 where
  pub each : (row : ℕ) → row < upto → get_or cached row false ≡ holds (note_at s.dropped row).id s.cache

-- all of them are
pub record CachedRows (s : State) (cached : List Bool) : Type 0 where
  pub told : CachedTold s (length s.dropped) cached
  pub long : length s.dropped ≤ length cached
