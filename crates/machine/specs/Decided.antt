-- Questions 10 to 14 and what an accepted call leaves, as functions of the state before the call and the link room as it was brought: what the code computes. Proved equal to the definitions of
-- `protocol` (proofs/DecidedLaws.antt).
-- Assumes nothing.
use Rattle.std.specs.Prelude.{ℕ, Bool, true, not, List, leb, length, if◌then◌else◌, Option, Some, None, Result, Ok, Err}
use Rattle.refusal.specs.Numbers.{number_of}
use Rattle.refusal.specs.declared.Refusal.TheVariants.{MessageTooLong, CountsFull, NoMoreHops}
use Rattle.storage.specs.Lists.Base.{concat_map}
use Rattle.postcard.specs.Message.{Event, Received, action_bytes}
use Rattle.protocol.specs.State.{State, Counts}
use Rattle.protocol.specs.Run.{Room}
use Rattle.protocol.specs.Answer.{counts_stay, Outcome, refused, accepted}
use Rattle.decide.specs.Settled.{too_far_before}
use Rattle.decide.specs.ActionsAfter.{actions_after}
use Rattle.decide.specs.StateAfter.{state_after}
use Rattle.decide.specs.Counted.{counts_after_call}
use Rattle.machine.specs.Limit.{state_limit}
use Rattle.machine.specs.declared.limit.Limit.{Limit}
use Rattle.machine.specs.declared.event.Stop.{Stop}
use Rattle.machine.specs.declared.event.Stop.TheVariants.{Refused, Past}

-- (10) "Is a received message at most M bytes?", of how many it has; the other events have none
unfoldable pub size_fits : ℕ → ℕ → Event → Bool
size_fits max size (Received p m) = leb size max
size_fits max size _ = true

-- what a call leaves that questions 10 to 13 let through, and the bytes of its actions
pub record Planned : Type 0 where
  pub state : State
  pub counts : Counts
  pub bytes : List ℕ

-- (13) turned down where a limit is past
abbrev pub unless : Option Limit → Planned → Result Planned Stop
unless None p = Ok p
unless (Some l) p = Err (Past l)

-- the number of the question that was answered no
abbrev pub stop_number : Stop → ℕ
stop_number (Refused r) = number_of r
stop_number (Past l) = 13

-- the limit that is past, if it is that
abbrev pub stop_limit : Stop → Option Limit
stop_limit (Refused r) = None
stop_limit (Past l) = Some l

-- the limit that is past, of what questions 10 to 13 have found
abbrev pub limit_found : Result Planned Stop → Option Limit
limit_found (Ok p) = None
limit_found (Err stop) = stop_limit stop

-- (14), and what the caller finds
abbrev pub answered : ℕ → Result Planned Stop → Outcome
answered output (Ok p) = if leb (length p.bytes) output then accepted p.state p.counts p.bytes else refused 14
answered output (Err stop) = refused (stop_number stop)

-- what is behind questions 10, 11 and 12, unless one of them turns the call down
abbrev pub behind : Bool → Bool → Bool → Result Planned Stop → Result Planned Stop
behind too_long full far r =
    if too_long then Err (Refused MessageTooLong)
    else if full then Err (Refused CountsFull)
    else if far then Err (Refused NoMoreHops)
    else r

module _ (hash : List ℕ → ℕ) where
  -- what is left, where no limit is past
  abbrev pub after_call : List Room → ℕ → Event → State → Counts → Planned
  after_call rooms now e s c = record { state = state_after hash rooms now e s; counts = counts_after_call hash now e s c; bytes = concat_map action_bytes (actions_after hash rooms now e s) }

  -- (10) of a received message's number of bytes, (11), (12), (13) of the state after
  unfoldable pub event_plan : List Room → ℕ → ℕ → Event → State → Counts → Result Planned Stop
  event_plan rooms now size e s c =
      behind (not (size_fits s.settings.max_message_size size e)) (not (counts_stay e c)) (too_far_before hash now e s)
      (unless (state_limit (state_after hash rooms now e s)) (after_call rooms now e s c))

  -- all five
  abbrev pub decided : List Room → ℕ → ℕ → Event → State → Counts → ℕ → Outcome
  decided rooms now size e s c output = answered output (event_plan rooms now size e s c)
