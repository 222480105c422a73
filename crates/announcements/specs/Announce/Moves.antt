-- What AnnounceDropped does to queue and record.
-- Assumes nothing.
use Rattle.std.specs.Prelude.{[], ◌++◌}
use Rattle.protocol.specs.State.{State, with_queue, with_dropped}
use Rattle.protocol.specs.Ticks.{oldest, younger, still_cached}

-- "drops uncached identifiers, moves the oldest 64 per peer to its queue"
unfoldable pub moved_state : State → State
moved_state s = with_dropped (younger [] (still_cached s)) (with_queue (s.queue ++ oldest [] (still_cached s)) s)
