-- The record after `note_dropped` of one identifier for one link.
-- Assumes nothing.
use Rattle.std.specs.Prelude.{ℕ, List}
use Rattle.protocol.specs.State.{State, Note}
use Rattle.decide.specs.RecordGrowth.{cached_in, add_note}
use Rattle.decide.specs.StateAfter.{recorded_state}
use Rattle.block.specs.LinkSteps.{peer_at}

-- the record with the identifier noted for the peer of a link
abbrev pub noted : ℕ → ℕ → ℕ → State → List Note
noted l id round s = add_note (cached_in s.cache) (peer_at s l) (record { id = id; round = round }) s.dropped

-- that record, which stands with its flag
unfoldable pub noted_state : ℕ → ℕ → ℕ → State → State
noted_state l id round s = recorded_state (noted l id round s) s
