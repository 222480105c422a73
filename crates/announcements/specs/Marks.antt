-- What is kept of identifiers by their places: marks, and rows of the queue.
-- Assumes nothing.
use Rattle.std.specs.Prelude.{ℕ, ◌+◌, ◌*◌, ◌/◌, ◌%◌, ◌^◌, ◌<◌, ◌≡◌, Bool, true, List, length, get_or}
use Rattle.protocol.specs.State.{State}
use Rattle.block.specs.NoteSteps.{note_at}
use Rattle.announcements.specs.QueuedRows.{held_then}

-- the place of an identifier: the highest twelve of the 64 low bits of what its last word makes with a multiplier. There its mark stands, and by it a row that has it is found
unfoldable pub place_of : ℕ → ℕ → ℕ
place_of multiplier id = id % 2 ^ 64 * multiplier % 2 ^ 64 / 2 ^ 52

-- each known identifier has this mark; others may have it
pub record Covers (multiplier : ℕ) (known : ℕ → Bool) (mark : ℕ) (marks : List ℕ) : Type 0 where
  pub told : (id : ℕ) → known id ≡ true → get_or marks (place_of multiplier id) 0 ≡ mark
  pub long : length marks ≡ 4096

-- each of these is 0, or one more than a row of the queue whose identifier is cached once a first event has evicted
pub record FoundCached (now : ℕ) (s : State) (rows : List ℕ) : Type 0 where
  pub named : (place row : ℕ) → get_or rows place 0 ≡ row + 1 → (row < length s.queue) × (held_then now s (note_at s.queue row).id ≡ true)
