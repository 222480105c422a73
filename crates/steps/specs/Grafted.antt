-- A grafted message that was looked up, by the number of its entry, if it has one.
-- Assumes nothing.
use Rattle.std.specs.Prelude.{ℕ, ◌<◌, [], length, Option, Some, None}
use Rattle.storage.specs.Lists.Map.{Map}
use Rattle.protocol.specs.State.{State}
use Rattle.block.specs.Caches.GraftSteps.{grafts_at}

-- the entry is there
abbrev pub EntryThere : Option ℕ → State → Type 0
EntryThere (Some i) s = i < length s.grafted.entries
EntryThere None s = Unit {0}

-- the peers that are grafted for it
unfoldable pub peers_at : Option ℕ → State → Map ℕ
peers_at (Some i) s = (grafts_at s i).peers
peers_at None s = []
