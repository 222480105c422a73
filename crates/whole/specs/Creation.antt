-- What a creation leaves: the specification, questions 1 to 4.
-- Assumes nothing.
use Rattle.std.specs.Prelude.{ℕ, ◌≡◌, false, List, length, drop, Some}
use Rattle.protocol.specs.State.{State, Created, created, not_created, create}
use Rattle.block.specs.View.{settings_of, limits_of}
use Rattle.block.specs.declared.head.Settings.{Settings}
use Rattle.block.specs.declared.head.Limits.{Limits}
use Rattle.block.specs.declared.head.Live.{Live}
use Rattle.whole.specs.Held.{held}

-- "The first no gives its number ..; block .. untouched"
pub record Refused (n : ℕ) (before after : List ℕ) (r : ℕ) : Type 0 where
  pub number : r ≡ n
  pub block : after ≡ before

-- "Answer 0 is yes to all"; "An accepted creation leaves the state of `State::new`": the block holds it, and no byte but the header's has changed
pub record Accepted (s : State) (before after : List ℕ) (r : ℕ) : Type 0 where
  pub number : r ≡ 0
  pub state : held after ≡ Some s
  pub long : length after ≡ length before
  pub rest : drop 2048 after ≡ drop 2048 before

-- what a creation leaves, by its answer in the definitions
abbrev pub Creates : Created → List ℕ → List ℕ → ℕ → Type 0
Creates (not_created n) before after r = Refused n before after r
Creates (created s counts) before after r = Accepted s before after r

-- a creation with these settings and limits, from the block before to the block after and the answer r
abbrev pub Creation : Settings → Limits → List ℕ → List ℕ → ℕ → Type 0
Creation c l before after r = Creates (create (settings_of c) (limits_of l) (length before)) before after r

-- the header's numbers of `State::new`: no row of any table is in use, and every flag is clear
abbrev pub fresh_live : Live
fresh_live = record {
  links = 0;
  received = 0;
  received_rows = 0;
  cached = 0;
  cached_rows = 0;
  contents = 0;
  grafted = 0;
  grafted_rows = 0;
  missing = 0;
  timers = 0;
  queued = 0;
  dropped = 0;
  dispatch_timer_scheduled = false;
  announce_dropped_scheduled = false;
  init = false;
}
