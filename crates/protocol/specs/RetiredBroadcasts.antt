-- "A broadcast event with byte 1 is turned down … Such a broadcast answers 23, asked between 9 and 10."
-- Assumes nothing.
use Rattle.std.specs.Prelude.{ℕ, ◌≤◌, ◌≡◌, true, List}
use Rattle.postcard.specs.Retired.{IsRetired}
use Rattle.postcard.specs.Wide.{Bytes}
use Rattle.protocol.specs.State.{State, Counts}
use Rattle.protocol.specs.Whole.{whole}
use Rattle.protocol.specs.Answer.{Call, refuse, ask_whole}
use Rattle.protocol.specs.declared.TheConstants.{LATEST}

-- where questions 5 and 6 are answered yes, 23 is answered of its bytes, whatever the panel's state, the counts, link room and output are; and of no others
pub record RetiredBroadcasts (hash : List ℕ → ℕ) : Type 0 where
  pub answered : (s : State) (c : Counts) (k : Call) → whole s ≡ true → k.now ≤ LATEST.0 → IsRetired k.event → ask_whole hash s c k ≡ refuse 23
  pub no_other : (s : State) (c : Counts) (k : Call) → Bytes k.event → ask_whole hash s c k ≡ refuse 23 → IsRetired k.event
