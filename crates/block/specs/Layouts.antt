-- The tables by their numbers, and where a layout says that they start.
-- Assumes nothing.
use Rattle.std.specs.Prelude.{ℕ, ◌≤◌, ◌≡◌, get_or}
use Rattle.protocol.specs.State.{Limits}
use Rattle.block.specs.Layout.{place}
use Rattle.block.specs.declared.layout.Layout.{Layout}
use Rattle.block.specs.declared.layout.Table.{Table}
use Rattle.block.specs.declared.layout.Table.TheVariants.{Links, Received, ReceivedRows, Cached, CachedRows, Contents, Grafted, GraftedRows, Missing, Timers, Queue, QueueRows, Record, RecordRows}

-- which of the `sizes` is a table's
abbrev pub number : Table → ℕ
number Links = 1
number Received = 2
number ReceivedRows = 3
number Cached = 4
number CachedRows = 5
number Contents = 6
number Grafted = 7
number GraftedRows = 8
number Missing = 9
number Timers = 10
number Queue = 11
number QueueRows = 12
number Record = 13
number RecordRows = 14

-- each table starts where it does for these limits, and what follows the last one where the last one ends
pub record LaysOut (layout : Layout) (l : Limits) : Type 0 where
  pub starts : (i : ℕ) → i ≤ 15 → get_or layout.starts i 0 ≡ place l i
