-- What SendGraft does where the message is not received.
-- Assumes nothing.
use Rattle.std.specs.Prelude.{ℕ, ◌-◌, length, drop, if◌then◌else◌}
use Rattle.storage.specs.Lists.Base.{is_empty}
use Rattle.protocol.specs.State.{State}
use Rattle.protocol.specs.Gossips.{announcers}
use Rattle.block.specs.MissingSteps.{hops_at}
use Rattle.decide.specs.StateAfter.{asked_state}

-- the first announcer of the identifier is asked
abbrev pub asked_first : ℕ → ℕ → State → State
asked_first now id s = asked_state now id (announcers id s) s

-- how many messages are missing once the first announcer of missing message i has left
abbrev pub missing_left : ℕ → State → ℕ
missing_left i s = if is_empty (drop 1 (hops_at s i)) then length s.missing - 1 else length s.missing
