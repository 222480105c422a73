-- Queue and record are one list over all peers each, and the list of a peer is what stands there for it, in order. Two runs are `Like` when they differ only in how the lists of different peers are interleaved.
-- Assumes nothing.
use Rattle.std.specs.Prelude.{ℕ, ◌≡◌, List}
use Rattle.storage.specs.Lists.Base.{filter}
use Rattle.protocol.specs.State.{State, Counts, Note, with_queue, with_dropped}
use Rattle.protocol.specs.Run.{Run, Room, with_state, begin}
use Rattle.protocol.specs.Push.{for_peer}

-- what stands for the peer, in order
abbrev pub of_peer : ℕ → List Note → List Note
of_peer p ns = filter (for_peer p) ns

-- each peer has the same list
pub record Peerwise (xs ys : List Note) : Type 0 where
  pub same : (p : ℕ) → of_peer p xs ≡ of_peer p ys

-- the run with this queue and this record
abbrev pub over : Run → List Note → List Note → Run
over r q d = with_state (with_queue q (with_dropped d r.state)) r

-- one run with two queues and two records, in which each peer has the same
pub data Like : Run → Run → Type 0 where
  like : (r : Run) (q d q' d' : List Note) → Peerwise q q' → Peerwise d d' → Like (over r q d) (over r q' d')

-- the same of two states: calls that begin with them are `Like`
abbrev pub LikeStates : State → State → Type 0
LikeStates s t = (c : Counts) (rooms : List Room) → Like (begin s c rooms) (begin t c rooms)
