-- The counts after a call, as a function of the counts and the state before it. Proved equal to those of `handle` (proofs/Counted.antt).
-- Assumes nothing.
use Rattle.std.specs.Prelude.{ℕ, suc, max, not, List, eqb, if◌then◌else◌}
use Rattle.time_cache.specs.TimeCache.{holds}
use Rattle.postcard.specs.Message.{Swarm, Neighbors, Message, Gossip, Prune, Graft, IHave, Event, Received, Broadcast, Fired, Up, Down}
use Rattle.protocol.specs.State.{State, Counts}
use Rattle.protocol.specs.Handle.{count_message}
use Rattle.decide.specs.Settled.{settled}

-- "largest r + 1"
unfoldable pub raised : ℕ → Counts → Counts
raised round c = record { payload = c.payload; control = c.control; hops = max c.hops round }

module _ (hash : List ℕ → ℕ) where
  -- a new Swarm message of round r raises the largest round to r + 1; `s` is the state that a first event leaves
  unfoldable pub message_counts : Message → State → Counts → Counts
  message_counts (Gossip id content (Swarm round)) s c =
      if not (eqb (hash content) id) then c
      else if holds id s.received then c
      else raised (suc round) c
  message_counts (Gossip id content Neighbors) s c = c
  message_counts Prune s c = c
  message_counts (Graft wanted round) s c = c
  message_counts (IHave hs) s c = c

  -- the counts after the call
  unfoldable pub counts_after_call : ℕ → Event → State → Counts → Counts
  counts_after_call now (Received p m) s c = message_counts m (settled now s) (count_message m c)
  counts_after_call now (Broadcast content) s c = c
  counts_after_call now (Fired t) s c = c
  counts_after_call now (Up as_quiet p) s c = c
  counts_after_call now (Down p) s c = c
