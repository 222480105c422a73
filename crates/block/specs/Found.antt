-- What a look-up in the links and the missing messages answers.
-- Assumes nothing.
use Rattle.std.specs.Prelude.{ℕ, ◌<◌, ◌≡◌, Bool, true, false, [], length, Option, Some, None}
use Rattle.protocol.specs.Links.{is_neighbour}
use Rattle.protocol.specs.State.{State, Hop}
use Rattle.protocol.specs.Gossips.{announcers}
use Rattle.block.specs.LinkSteps.{peer_at}
use Rattle.block.specs.MissingSteps.{hop, missed_at, hops_at}
use Rattle.block.specs.declared.hops.Hop.{Hop as LinkHop}

-- a link of this peer
pub record LinkAt (s : State) (p l : ℕ) : Type 0 where
  pub below : l < length s.links
  pub peer : peer_at s l ≡ p

-- the link of a peer, if it has one
abbrev pub LinkOf : State → ℕ → Option ℕ → Type 0
LinkOf s p (Some l) = LinkAt s p l
LinkOf s p None = is_neighbour p s.links ≡ false

-- the same, if this holds too
abbrev pub LinkIf : State → ℕ → Bool → Option ℕ → Type 0
LinkIf s p b (Some l) = LinkAt s p l × (b ≡ true)
LinkIf s p b None = b ≡ false

-- a missing message, which has the announcers of this identifier
pub record MissingAt (s : State) (id i : ℕ) : Type 0 where
  pub below : i < length s.missing
  pub key : (missed_at s i).key ≡ id
  pub same : announcers id s ≡ hops_at s i

-- the missing message of an identifier, if it is missing
abbrev pub MissingOf : State → ℕ → Option ℕ → Type 0
MissingOf s id (Some i) = MissingAt s id i
MissingOf s id None = announcers id s ≡ []

-- the peer of a link with a round
abbrev pub hop_value : State → LinkHop → Hop
hop_value s k = hop (peer_at s k.link) k.round.0

-- the announcer by the number of its link
pub record HopOf (s : State) (h : Hop) (k : LinkHop) : Type 0 where
  pub below : k.link < length s.links
  pub same : h ≡ hop_value s k
