-- One pass over the record for all links that hand a push back.
-- Assumes nothing.
use Rattle.std.specs.Prelude.{ℕ, ◌+◌, ◌<◌, ◌≡◌, Bool, not, ◌&&◌, ◌||◌, List, [], ◌∷◌, leb, ltb, length, get_or, if◌then◌else◌}
use Rattle.storage.specs.Lists.Base.{count, any}
use Rattle.protocol.specs.State.{State, Note}
use Rattle.protocol.specs.Push.{for_peer, notes}
use Rattle.block.specs.LinkSteps.{peer_at}
use Rattle.steps.specs.declared.link_set.LinkSet.{LinkSet}
use Rattle.payloads.specs.Eager.Targets.{hands_back}

-- m notes were seen for the peer, and one more is seen: 256 says that the peer gets none
unfoldable pub seen_after : ℕ → ℕ → Note → ℕ → ℕ
seen_after p id n m = if leb 256 m then m else if notes p id n then 256 else if for_peer p n then m + 1 else m

-- the notes of a list are seen
unfoldable pub seen : ℕ → ℕ → List Note → ℕ → ℕ
seen p id [] m = m
seen p id (n ∷ ns) m = seen p id ns (seen_after p id n m)

-- link l hands the push back, has fewer than 256 notes, and none of the identifier
unfoldable pub wants_note : LinkSet → List ℕ → ℕ → State → ℕ → Bool
wants_note to rooms id s l =
    hands_back to rooms l && not (leb 256 (count (for_peer (peer_at s l)) s.dropped) || any (notes (peer_at s l) id) s.dropped)

-- 0 for each of n links that hands the push back, else 256
pub record FirstMarks (to : LinkSet) (rooms : List ℕ) (n : ℕ) (r : List ℕ) : Type 0 where
  pub each : (l : ℕ) → l < n → get_or r l 0 ≡ (if hands_back to rooms l then 0 else 256)
  pub long : length r ≡ 32

-- the record was seen for each of n links
pub record SeenFor (s : State) (n id : ℕ) (marks r : List ℕ) : Type 0 where
  pub each : (l : ℕ) → l < n → get_or r l 0 ≡ seen (peer_at s l) id s.dropped (get_or marks l 0)

-- a number below 256 for each of n links that gets a note
pub record Wants (to : LinkSet) (rooms : List ℕ) (id : ℕ) (s : State) (n : ℕ) (r : List ℕ) : Type 0 where
  pub each : (l : ℕ) → l < n → ltb (get_or r l 0) 256 ≡ wants_note to rooms id s l
