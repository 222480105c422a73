-- A message that is taken in.
-- Assumes nothing.
use Rattle.std.specs.Prelude.{ℕ, ◌≡◌, ◌≤◌, true, List}
use Rattle.protocol.specs.State.{State}
use Rattle.protocol.specs.Whole.{cache_fits, content_held}
use Rattle.protocol.specs.declared.TheConstants.{LATEST}
use Rattle.decide.specs.StateAfter.{taken_state}
use Rattle.block.specs.Panels.{AtRest}

-- what taking it in asks: the message caches with it are within their limits
pub record Takes (instant id : ℕ) (content : List ℕ) (round : ℕ) (s : State) : Type 0 where
  pub rest : AtRest s
  pub early : instant ≤ LATEST.0
  pub received : cache_fits s.limits.R (taken_state instant id content round s).received ≡ true
  pub cached : cache_fits s.limits.C (taken_state instant id content round s).cache ≡ true
  pub bytes : content_held (taken_state instant id content round s) ≤ s.limits.B
