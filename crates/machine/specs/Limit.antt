-- The number of a limit, and the first limit that numbers of entries are past. Proved equal to `limit_past` of the state that has them (proofs/LimitLaws.antt).
-- Assumes nothing.
use Rattle.std.specs.Prelude.{ℕ, ◌*◌, not, ◌&&◌, leb, if◌then◌else◌, Option, Some, None}
use Rattle.protocol.specs.State.{State, Limits}
use Rattle.decide.specs.Sizes.{Sizes, sizes_of}
use Rattle.machine.specs.declared.limit.Limit.{Limit}
use Rattle.machine.specs.declared.limit.Limit.TheVariants.{Neighbours, Received, Cached, Content, Grafted, Missing, Timers, Queued, Dropped}

-- its number, in the order of the ceilings
abbrev pub limit_number : Limit → ℕ
limit_number Neighbours = 1
limit_number Received = 2
limit_number Cached = 3
limit_number Content = 4
limit_number Grafted = 5
limit_number Missing = 6
limit_number Timers = 7
limit_number Queued = 8
limit_number Dropped = 9

-- 0 where there is none
abbrev pub limit_told : Option Limit → ℕ
limit_told None = 0
limit_told (Some l) = limit_number l

-- the first that these numbers are past
unfoldable pub first_limit : Limits → Sizes → Option Limit
first_limit l z =
    if not (leb z.links l.N) then Some Neighbours
    else if not (leb z.received l.R && leb z.received_expiry (2 * l.R)) then Some Received
    else if not (leb z.cached l.C && leb z.cached_expiry (2 * l.C)) then Some Cached
    else if not (leb z.content l.B) then Some Content
    else if not (leb z.grafted l.G && leb z.grafted_expiry (2 * l.G)) then Some Grafted
    else if not (leb z.missing l.S) then Some Missing
    else if not (leb z.timers l.T) then Some Timers
    else if not (leb z.queued l.Q) then Some Queued
    else if not (leb z.recorded l.D) then Some Dropped
    else None

-- the first that a state is past
abbrev pub state_limit : State → Option Limit
state_limit s = first_limit s.limits (sizes_of s)
