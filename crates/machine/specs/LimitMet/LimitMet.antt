-- Which limit a call met that is answered 13: the specification, question 13.
-- Assumes nothing.
use Rattle.std.specs.Prelude.{ℕ, Bool, false, not, List, leb, eqb, length, if◌then◌else◌, Option, Some, None}
use Rattle.postcard.specs.Message.{Event}
use Rattle.postcard.specs.Decode.{Decoded, decoded, faulty, decode_event}
use Rattle.protocol.specs.State.{State, zero_counts}
use Rattle.protocol.specs.Run.{Room, begin}
use Rattle.protocol.specs.Handle.{handle}
use Rattle.protocol.specs.Whole.{content_held, cache_fits, whole_state}
use Rattle.protocol.specs.Answer.{Call, Answer, refuse, accept, ask}

-- the first limit that a state is past, by its number: 1 "neighbours N", 2 "received R", 3 "cached C", 4 "content bytes B", 5 "grafted G", 6 "missing S", 7 "graft timers T", 8 "queued Q", 9 "dropped D"; 0 if it is "within every limit". "Expiry entries: 2R, 2C, 2G"
unfoldable pub limit_past : State → ℕ
limit_past s =
    if not (leb (length s.links) s.limits.N) then 1
    else if not (cache_fits s.limits.R s.received) then 2
    else if not (cache_fits s.limits.C s.cache) then 3
    else if not (leb (content_held s) s.limits.B) then 4
    else if not (cache_fits s.limits.G s.grafted) then 5
    else if not (leb (length s.missing) s.limits.S) then 6
    else if not (leb (length s.timers.graft) s.limits.T) then 7
    else if not (leb (length s.queue) s.limits.Q) then 8
    else if not (leb (length s.dropped) s.limits.D) then 9
    else 0

-- whether the answer is 13
unfoldable pub is13 : Answer → Bool
is13 (refuse n) = eqb n 13
is13 (accept e r) = false

-- a call with this link room; question 13 comes before 14, so that the length of its output is of no account
abbrev pub asking : ℕ → List ℕ → List Room → Call
asking now event rooms = record { now = now; event = event; rooms = rooms; output = 0 }

module _ (hash : List ℕ → ℕ) where
  -- the limit that the state after the event is past
  unfoldable pub past_after : State → Call → Decoded Event → ℕ
  past_after s k (faulty n) = 0
  past_after s k (decoded e) = limit_past (handle hash k.now e (begin s zero_counts k.rooms)).state

  -- upon a whole block's state, with the counts zero; 0 if the answer is not 13
  unfoldable pub limit_of : Option State → Call → ℕ
  limit_of None k = 0
  limit_of (Some s) k = if is13 (ask hash s zero_counts k) then past_after s k (decode_event k.event) else 0

  -- upon a block of this length; `held` is the state that its bytes hold, if they hold one
  unfoldable pub limit_met : ℕ → Option State → Call → ℕ
  limit_met block_length held k = limit_of (whole_state block_length held) k
