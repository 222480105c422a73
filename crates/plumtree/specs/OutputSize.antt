-- An output of `output_size` bytes is enough, over blocks: a panel that comes from a creation never answers 14 to one, and its actions never take more.
-- Assumes nothing.
use Rattle.std.specs.Prelude.{ℕ, ◌≤◌, ◌≡◌, List, [], ◌∷◌, length}
use Rattle.protocol.specs.State.{Counts}
use Rattle.protocol.specs.Answer.{Call}
use Rattle.block.specs.View.{settings_of, limits_of}
use Rattle.block.specs.declared.head.Settings.{Settings}
use Rattle.block.specs.declared.head.Limits.{Limits}
use Rattle.output_size.specs.OutputSize.{output_size, AllBytes}
use Rattle.plumtree.specs.Calls.{Made}
use Rattle.plumtree.specs.Chain.{Seen, Chain}

-- the number, of the code's settings and limits
abbrev pub size_of : Settings → Limits → ℕ
size_of c l = output_size (limits_of l) (settings_of c).max_message_size

-- what is said of a call and of what was seen of it: its actions have at most so many bytes; lent an output of so many or more, it was not answered 14
pub record WasEnough (size : ℕ) (k : Call) (v : Seen) : Type 0 where
  pub fits : length v.bytes ≤ size
  pub never_14 : size ≤ k.output → v.number ≡ 14 → ⊥

-- of each call, with what was seen of it
pub data EachEnough (size : ℕ) : List Call → List Seen → Type 0 where
  no_more : EachEnough size [] []
  one_more : (k : Call) (v : Seen) (ks : List Call) (seen : List Seen) → WasEnough size k v → EachEnough size ks seen → EachEnough size (k ∷ ks) (v ∷ seen)

-- of every chain of calls from a block and counts as an accepted creation left them
pub record OutputSizeOfBlocks : Type 0 where
  pub always : (c : Settings) (l : Limits) (before : List ℕ) (old : Counts) (block : List ℕ) (counts : Counts) (long : ℕ) → Made c l before old block counts 0 long →
      (ks : List Call) (seen : List Seen) (last : List ℕ) (last_counts : Counts) → Chain block counts ks seen last last_counts → AllBytes ks →
      EachEnough (size_of c l) ks seen
