-- The peers that are grafted for an identifier, by where it stands.
-- Assumes nothing.
use Rattle.steps.proofs.Words.{◌≡◌, ℕ, ap, sym, Option, Some, None, get, State, Grafts}
use Rattle.protocol.specs.Gossips.{peers_of, grafted_for}
use Rattle.steps.specs.Grafted.{EntryThere, peers_at}
use Rattle.steps.specs.Shared.{EntryIs}
use Rattle.steps.specs.Settled.Then.{no_grafted}

-- an entry that was found
module _ (s : State) (id : ℕ) (found : Option Grafts) where
  pub entry-there : (k : Option ℕ) → EntryIs no_grafted s.grafted.entries id found k → EntryThere k s
  entry-there (Some i) e = e.below
  entry-there None e = tt

  pub entry-peers : (k : Option ℕ) → EntryIs no_grafted s.grafted.entries id found k → peers_at k s ≡ peers_of found
  unfolding peers_at peers_of
  entry-peers (Some i) e = sym (ap peers_of e.value)
  entry-peers None e = sym (ap peers_of e)

-- the peers that are grafted for its identifier
pub found-peers : (s t : State) (id : ℕ) (k : Option ℕ) → EntryIs no_grafted s.grafted.entries id (get id t.grafted) k → peers_at k s ≡ grafted_for id t
unfolding grafted_for
found-peers s t id k e = entry-peers s id (get id t.grafted) k e
