-- A panel does not refuse its own block: no call of a list from an accepted creation is answered 5.
-- Assumes nothing.
use Rattle.std.specs.Prelude.{ℕ, ◌≡◌, ◌≤◌, Bool, true, not, List, eqb}
use Rattle.storage.specs.Lists.Base.{all}
use Rattle.protocol.specs.State.{State, Counts, Settings, Limits, created, create}
use Rattle.protocol.specs.Answer.{Call, Answer, refuse, accept}
use Rattle.protocol.specs.Calls.{run_calls}

-- the answer is not 5
abbrev pub not_five : Answer → Bool
not_five (refuse n) = not (eqb n 5)
not_five (accept e r) = true

-- from a fresh panel whose threshold has two bytes, as each that a caller can lend
abbrev pub NeverFive : (List ℕ → ℕ) → Type 0
NeverFive hash =
    (c : Settings) (l : Limits) (block_length : ℕ) (s : State) (n : Counts) → create c l block_length ≡ created s n → c.optimization_threshold ≤ 65535 →
    (ks : List Call) → all not_five (run_calls hash s n ks).answers ≡ true
