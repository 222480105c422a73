-- Whom an eager push goes to, and who hands it back.
-- Assumes nothing.
use Rattle.std.specs.Prelude.{ℕ, ◌≡◌, List, map, length}
use Rattle.protocol.specs.State.{State}
use Rattle.protocol.specs.Push.{eager_targets}
use Rattle.decide.specs.Rooms.{back_peers}
use Rattle.block.specs.LinkSteps.{peer_at}
use Rattle.steps.specs.Calls.{rooms_of}
use Rattle.steps.specs.LinkSets.{links_of, AllBelow}
use Rattle.steps.specs.declared.call.Call.{Call}
use Rattle.steps.specs.declared.link_set.LinkSet.{LinkSet}

-- the peers of these links
abbrev pub link_peers : LinkSet → State → List ℕ
link_peers to s = map (peer_at s) (links_of to)

-- the push goes to these links
pub record TargetsAre (sender : ℕ) (skip : List ℕ) (s : State) (to : LinkSet) : Type 0 where
  pub below : AllBelow to (length s.links)
  pub same : eager_targets sender skip s ≡ link_peers to s

-- those of them that hand it back
abbrev pub push_backs : Call → LinkSet → State → List ℕ
push_backs call to s = back_peers (rooms_of call s) (link_peers to s)
