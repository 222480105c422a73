-- Which links an eager push goes to, and which of them hand it back.
-- Assumes nothing.
use Rattle.std.specs.Prelude.{ℕ, Bool, not, ◌&&◌, List, eqb, leb, get_or}
use Rattle.storage.specs.Lists.Base.{member}
use Rattle.protocol.specs.Links.{is_eager}
use Rattle.protocol.specs.State.{State}
use Rattle.block.specs.LinkSteps.{link_at, peer_at}
use Rattle.steps.specs.LinkSets.{has_link}
use Rattle.steps.specs.declared.link_set.LinkSet.{LinkSet}

-- link i is eager, and neither the panel nor the sender nor among those skipped
unfoldable pub is_target : ℕ → List ℕ → State → ℕ → Bool
is_target sender skip s i =
    is_eager (link_at s i).value && (not (eqb (peer_at s i) s.settings.me) && not (eqb (peer_at s i) sender) && not (member (peer_at s i) skip))

-- link i is pushed to, and has no room
unfoldable pub hands_back : LinkSet → List ℕ → ℕ → Bool
hands_back to rooms i = has_link to i && not (leb 1 (get_or rooms i 0))
