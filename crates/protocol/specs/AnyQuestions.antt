-- The guarantee, and that no announcement waits past four ticks, use no question: they hold too where each event of a list is refused, with any number, or run, at any time and with any link room.
-- Assumes nothing.
use Rattle.std.specs.Prelude.{ℕ, ◌≡◌, List, [], ◌∷◌}
use Rattle.postcard.specs.Message.{Event}
use Rattle.protocol.specs.State.{State, Counts, Settings, Limits, created, create}
use Rattle.protocol.specs.Run.{Room, begin}
use Rattle.protocol.specs.Handle.{handle}
use Rattle.protocol.specs.Answer.{refuse, accept}
use Rattle.protocol.specs.Calls.{prepend, Ran}
use Rattle.protocol.specs.NoNeighbourPassedOver.{HoldsAfter}
use Rattle.protocol.specs.FourTicks.{WaitsFourTicks}

-- an event that is refused with this number, or one that is run at this time with this link room
pub data Happening : Type 0 where
  refusal : ℕ → Happening
  event : ℕ → List Room → Event → Happening

module _ (hash : List ℕ → ℕ) where
  -- these one after the other
  unfoldable pub run_all : State → Counts → List Happening → Ran
  run_all s n [] = record { state = s; counts = n; answers = [] }
  run_all s n (refusal m ∷ xs) = prepend (refuse m) (run_all s n xs)
  run_all s n (event now rooms e ∷ xs) =
      prepend (accept e (handle hash now e (begin s n rooms))) (run_all (handle hash now e (begin s n rooms)).state (handle hash now e (begin s n rooms)).counts xs)

  -- from a fresh panel, whatever is refused and whatever is run
  pub record AnyQuestions : Type 0 where
    pub holds : (c : Settings) (l : Limits) (block_length : ℕ) (s : State) (n : Counts) → create c l block_length ≡ created s n →
        (xs : List Happening) → HoldsAfter hash c (run_all s n xs).answers (run_all s n xs).state
    pub waits : (c : Settings) (l : Limits) (block_length : ℕ) (s : State) (n : Counts) → create c l block_length ≡ created s n →
        (xs : List Happening) → WaitsFourTicks (run_all s n xs).answers
