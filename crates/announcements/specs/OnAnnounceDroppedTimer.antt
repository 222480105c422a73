-- AnnounceDropped: its actions, the two questions that they ask, and what is decided of it once.
-- Assumes nothing.
use Rattle.std.specs.Prelude.{ℕ, ◌≡◌, Bool, not, List, [], ◌++◌, length}
use Rattle.storage.specs.Lists.Base.{is_empty, concat_map}
use Rattle.postcard.specs.Message.{action_bytes}
use Rattle.protocol.specs.State.{State}
use Rattle.protocol.specs.Ticks.{oldest, younger, still_cached}
use Rattle.decide.specs.ActionsAfter.{announce_actions}
use Rattle.announcements.specs.CachedRows.{CachedRows}
use Rattle.announcements.specs.declared.on_announce_dropped_timer.StillCached.{StillCached}

-- its actions
abbrev pub announce_bytes : State → List ℕ
announce_bytes s = concat_map action_bytes (announce_actions s)

-- a queue stands once the oldest are moved
abbrev pub queue_stands : State → Bool
queue_stands s = not (is_empty (s.queue ++ oldest [] (still_cached s)))

-- a record does, of the younger
abbrev pub record_stands : State → Bool
record_stands s = not (is_empty (younger [] (still_cached s)))

-- this is what of the record is still cached: which of its rows, how many of them move, and how many are left
pub record StillCachedOf (s : State) (c : StillCached) : Type 0 where
  pub rows : CachedRows s c.rows.now
  pub moved : c.moved ≡ length (oldest [] (still_cached s))
  pub left : c.left ≡ length (younger [] (still_cached s))
