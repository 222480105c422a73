-- What is asked before a peer is grafted for a message, and what that leaves.
-- Assumes nothing.
use Rattle.std.specs.Prelude.{ℕ, ◌+◌, ◌≤◌, ◌<◌, ◌≡◌, true, length}
use Rattle.storage.specs.Lists.Base.{all, ascending}
use Rattle.storage.specs.Lists.Map.{keys}
use Rattle.protocol.specs.State.{State}
use Rattle.protocol.specs.Whole.{grafts_whole}
use Rattle.protocol.specs.declared.TheConstants.{LATEST}
use Rattle.block.specs.Caches.InBlock.{InOrder, AtMost}
use Rattle.block.specs.Caches.GraftSteps.{graft_noted}

-- the peer of a link is grafted for a message from an instant on, as long as a message is cached
abbrev pub grafted_until : ℕ → ℕ → ℕ → ℕ → State → State
grafted_until now l id r s = graft_noted id l r (now + s.settings.message_cache_retention) s

-- what grafting asks: links that ascend, a link among them, grafted messages in order, whose peers are neighbours, room, and an instant and a duration in range
pub record Graftable (now l id r : ℕ) (s : State) : Type 0 where
  pub links : ascending (keys s.links) ≡ true
  pub link : l < length s.links
  pub order : InOrder s.grafted
  pub whole : all (grafts_whole s.links) s.grafted.entries ≡ true
  pub room : AtMost s.limits.G (grafted_until now l id r s).grafted
  pub early : now ≤ LATEST.0
  pub retention : s.settings.message_cache_retention ≤ LATEST.0
