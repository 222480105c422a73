-- "Order in alike", over blocks: "from alike blocks and equal counts, the same list of events, times, link room and output space gives the same answers and actions".
-- Assumes nothing.
use Rattle.std.specs.Prelude.{ℕ, ◌≡◌, true, List, length}
use Rattle.protocol.specs.State.{Counts}
use Rattle.protocol.specs.Answer.{Call}
use Rattle.protocol.specs.Alike.{likeness, alike_blocks}
use Rattle.whole.specs.Held.{held}
use Rattle.plumtree.specs.Chain.{Seen, Chain}

-- *Alike*, of two blocks, is answered yes: both are whole, and may differ in length
abbrev pub ToldAlike : List ℕ → List ℕ → Type 0
ToldAlike a b = alike_blocks (length a) (held a) (length b) (held b) ≡ likeness true

-- what is the same after the list, upon either block
pub record SameSeen (v w : List Seen) (last last' : List ℕ) (n n' : Counts) : Type 0 where
  -- "gives the same answers and actions": number and output bytes of each call, also of a refused one
  pub seen : v ≡ w
  -- "equal counts" again
  pub counts : n ≡ n'
  -- and blocks that are told alike again, so that a list may be cut anywhere
  pub blocks : ToldAlike last last'

-- two chains of the same calls, each call as `plumtree_event` promises: a call has its event, time, link room and output length
pub record CommissioningSheetOfBlocks : Type 0 where
  pub always : (a b : List ℕ) (c d : Counts) → ToldAlike a b → c ≡ d →
      (ks : List Call) (seen seen' : List Seen) (last last' : List ℕ) (n n' : Counts) → Chain a c ks seen last n → Chain b d ks seen' last' n' →
      SameSeen seen seen' last last' n n'
