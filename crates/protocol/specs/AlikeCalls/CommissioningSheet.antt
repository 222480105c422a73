-- "Order in alike": "A commissioning sheet can then rely on this: from alike blocks and equal counts, the same list of events, times, link room and output space gives the same answers and actions."
-- Assumes nothing.
use Rattle.std.specs.Prelude.{ℕ, ◌≡◌, true, List, [], map}
use Rattle.postcard.specs.Message.{Action}
use Rattle.protocol.specs.State.{State, Counts}
use Rattle.protocol.specs.Whole.{whole}
use Rattle.protocol.specs.Answer.{Call, Answer, refuse, accept}
use Rattle.protocol.specs.Calls.{Ran, run_calls}
use Rattle.protocol.specs.Alike.{alike}

-- "The first no gives its number"; "Answer 0 is yes to all"
unfoldable pub number_of : Answer → ℕ
number_of (refuse n) = n
number_of (accept e r) = 0

-- the actions of a call; a refused one has none
unfoldable pub actions_of : Answer → List Action
actions_of (refuse n) = []
actions_of (accept e r) = r.actions

-- what is the same after the list, from either state
pub record SameAfter (a b : Ran) : Type 0 where
  -- "gives the same answers": the number of each call, also of a refused one
  pub numbers : map number_of a.answers ≡ map number_of b.answers
  -- "and actions": those of each call
  pub actions : map actions_of a.answers ≡ map actions_of b.answers
  -- "equal counts" again
  pub counts : a.counts ≡ b.counts
  -- and whole states that are alike again, so that a list may be cut anywhere
  pub first : whole a.state ≡ true
  pub second : whole b.state ≡ true
  pub states : alike a.state b.state ≡ true

-- for every identifier function
pub record CommissioningSheet (hash : List ℕ → ℕ) : Type 0 where
  -- "from alike blocks and equal counts, the same list of events, times, link room and output space gives the same answers and actions"
  pub always : (s t : State) (c d : Counts) → whole s ≡ true → whole t ≡ true → alike s t ≡ true → c ≡ d →
      (ks : List Call) → SameAfter (run_calls hash s c ks) (run_calls hash t d ks)
