-- "No announcement waits past four ticks", over a list of event calls. As in the guarantee, what is said of the past is read from the answers: of an accepted call its event, its actions and the state
-- after it. A refused call is passed over, so that the list speaks of the accepted ones, and a refused tick is no tick.
-- Assumes nothing.
use Rattle.std.specs.Prelude.{ℕ, ◌≤◌, ◌≡◌, Bool, true, false, not, List, ◌∷◌, ◌++◌}
use Rattle.storage.specs.Lists.Base.{any, count}
use Rattle.time_cache.specs.TimeCache.{holds}
use Rattle.postcard.specs.Message.{Event}
use Rattle.protocol.specs.State.{State, Counts, Settings, Limits, created, create}
use Rattle.protocol.specs.Run.{Run}
use Rattle.protocol.specs.Push.{notes}
use Rattle.protocol.specs.Answer.{Call, Answer, refuse, accept}
use Rattle.protocol.specs.Calls.{run_calls}
use Rattle.protocol.specs.NoNeighbourPassedOver.{Never, tells_down, sent, taken_or_handed_back, dispatch_tick, announce_tick, fired}
use Rattle.protocol.specs.ReadingsFollowTheTree.{announcement_of, state_left}

-- the state after an accepted call passes the test
unfoldable pub by_state : (State → Bool) → Answer → Bool
by_state f (refuse n) = false
by_state f (accept e r) = f r.state

-- the identifier stands on the neighbour's record
abbrev pub on_record : ℕ → ℕ → State → Bool
on_record p id s = any (notes p id) s.dropped

-- it does not
abbrev pub off_record : ℕ → ℕ → State → Bool
off_record p id s = not (on_record p id s)

-- it stands in the neighbour's queue
abbrev pub on_queue : ℕ → ℕ → State → Bool
on_queue p id s = any (notes p id) s.queue

-- how many AnnounceDropped ticks: accepted events of this timer, scheduled or not
abbrev pub ticks : List Answer → ℕ
ticks calls = count (fired announce_tick) calls

-- "the next dispatch tick, if the neighbour hasn't gone down by then either, sends it, taken or handed back": of the calls since it went to the queue
pub record SentNext (p id : ℕ) (since : List Answer) : Type 0 where
  pub sends : (between : List Answer) (tick : Answer) (later : List Answer) → since ≡ between ++ (tick ∷ later) →
      Never (fired dispatch_tick) between → fired dispatch_tick tick ≡ true → Never (tells_down p) between →
      sent p (announcement_of id) taken_or_handed_back tick ≡ true

-- how it left the record by this call, which found the panel in state `s`, `since` being the calls after it: the neighbour went down; or at a tick. "If the neighbour hasn't gone down and the message
-- is cached at those ticks, it went to that neighbour's queue"
pub data Leaves (p id : ℕ) (s : State) (call : Answer) (since : List Answer) : Type 0 where
  went_down : tells_down p call ≡ true → Leaves p id s call since
  not_cached : fired announce_tick call ≡ true → holds id s.cache ≡ false → Leaves p id s call since
  went_to_queue : fired announce_tick call ≡ true → by_state (on_queue p id) call ≡ true → SentNext p id since → Leaves p id s call since

-- what became of it in the calls after state `s`, in which it stands on the record: it stands there after each of them, and fewer than four ticks came; or it stood there until a call that left it off
-- the record, and fewer than four ticks came before that call: "has left it by the fourth AnnounceDropped tick after"
pub data Waited (p id : ℕ) (s : State) (after : List Answer) : Type 0 where
  still_there : Never (by_state (off_record p id)) after → ticks after ≤ 3 → Waited p id s after
  left_by : (until : List Answer) (call : Answer) (since : List Answer) → after ≡ until ++ (call ∷ since) →
      Never (by_state (off_record p id)) until → ticks until ≤ 3 → by_state (off_record p id) call ≡ true → Leaves p id (state_left s until) call since → Waited p id s after

-- of every accepted call of the list after which the identifier stands on a neighbour's record, so of the one by which it was "put on a neighbour's record"
pub record WaitsFourTicks (past : List Answer) : Type 0 where
  pub always : (p id : ℕ) (before after : List Answer) (e : Event) (r : Run) → past ≡ before ++ (accept e r ∷ after) →
      on_record p id r.state ≡ true → Waited p id r.state after

-- "For every list of accepted calls", from a fresh panel; refused ones may stand among them
pub record FourTicks (hash : List ℕ → ℕ) : Type 0 where
  pub always : (c : Settings) (l : Limits) (block_length : ℕ) (s : State) (n : Counts) → create c l block_length ≡ created s n →
      (ks : List Call) → WaitsFourTicks (run_calls hash s n ks).answers
