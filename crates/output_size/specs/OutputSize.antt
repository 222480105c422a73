-- How many bytes of output are enough: the number of `plumtree_output_size` (include/plumtree.h), and that a panel that comes from a creation never needs more.
-- Assumes nothing.
use Rattle.std.specs.Prelude.{ℕ, ◌+◌, ◌*◌, max, ◌≤◌, ◌≡◌, List, [], ◌∷◌, length}
use Rattle.postcard.specs.Wide.{Bytes}
use Rattle.postcard.specs.Message.{Event}
use Rattle.protocol.specs.State.{State, Counts, Settings, Limits, created, create}
use Rattle.protocol.specs.Run.{Run}
use Rattle.protocol.specs.Answer.{Call, Answer, refuse, accept, output_of, ask_whole}
use Rattle.protocol.specs.Calls.{run_calls}

-- of messages of at most M bytes: one to each neighbour and an emit; or 50 bytes for each queued announcement; or 33 for each cached message, which an eviction tells; whichever is most, and 64
unfoldable pub output_size : Limits → ℕ → ℕ
output_size l M = max (max ((l.N + 1) * (M + 13)) (50 * l.Q)) (33 * l.C) + 64

-- each call's event is of bytes
unfoldable pub AllBytes : List Call → Type 0
AllBytes [] = Unit {0}
AllBytes (k ∷ ks) = Bytes k.event × AllBytes ks

-- what is said of a call and its answer: accepted, its actions have at most so many bytes; with an output of so many or more it is not refused with 14
pub record Enough (size : ℕ) (k : Call) (a : Answer) : Type 0 where
  pub fits : (e : Event) (r : Run) → a ≡ accept e r → length (output_of r) ≤ size
  pub never_14 : size ≤ k.output → a ≡ refuse 14 → ⊥

-- of every call after every list of calls from a fresh panel with these settings and limits, whatever the times, link rooms and outputs
pub record OutputSize (hash : List ℕ → ℕ) : Type 0 where
  pub always : (c : Settings) (l : Limits) (block_length : ℕ) (s : State) (n : Counts) → create c l block_length ≡ created s n →
      (ks : List Call) → AllBytes ks → (k : Call) → Bytes k.event →
      Enough (output_size l c.max_message_size) k (ask_whole hash (run_calls hash s n ks).state (run_calls hash s n ks).counts k)
