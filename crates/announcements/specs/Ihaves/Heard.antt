-- The state after an IHave from the peer of a link.
-- Assumes nothing.
use Rattle.std.specs.Prelude.{ℕ, List}
use Rattle.postcard.specs.Message.{Ihave}
use Rattle.protocol.specs.State.{State}
use Rattle.decide.specs.StateAfter.{ihave_state}
use Rattle.block.specs.LinkSteps.{peer_at}

-- an announcement of an identifier and a round
abbrev pub ihave : ℕ → ℕ → Ihave
ihave i r = record { id = i; round = r }

-- the announcements of an IHave from the peer of a link
abbrev pub heard_from : ℕ → List Ihave → State → State
heard_from l hs s = ihave_state (peer_at s l) hs s
