-- "Named states": what the functions promise.
-- Assumes nothing.
use Rattle.std.specs.Prelude.{ℕ, ◌+◌, ◌*◌, ◌≤◌, ◌<◌, ◌≡◌, Bool, true, false, not, List, length, get_or, Result, Ok, Err, if◌then◌else◌}
use Rattle.storage.specs.Rows.Part.{part}
use Rattle.refusal.specs.Numbers.{answer_of}
use Rattle.refusal.specs.declared.Refusal.{Refusal}
use Rattle.refusal.specs.declared.Refusal.TheVariants.{BlockNotWhole, AreaNotWhole}
use Rattle.protocol.specs.State.{Counts}
use Rattle.whole.specs.Held.{whole_block}
use Rattle.whole.specs.States.Area.{kept, area_holds, name_at, SaveAnswer, not_saved, saved_to, save, ReturnAnswer, not_returned, brought_back, go_back}
use Rattle.whole.specs.Stats.{counts_of}
use Rattle.whole.specs.declared.stats.Stats.{Stats}

-- questions 5 and 17: how many states the area keeps
unfoldable pub area_asked : List ℕ → List ℕ → Result ℕ Refusal
area_asked block area =
    if not (whole_block block) then Err BlockNotWhole
    else if not (area_holds (length block) area) then Err AreaNotWhole
    else Ok (kept area)

-- a saving's number: "Answer 0 is yes to all"
unfoldable pub save_number : SaveAnswer → ℕ
save_number (not_saved n) = n
save_number (saved_to area') = 0

-- the area after it: "Neither a return nor a refusal changes the area"
unfoldable pub area_left : SaveAnswer → List ℕ → List ℕ
area_left (not_saved n) area = area
area_left (saved_to area') area = area'

-- a saving: from the area before it to the area after it, with its answer and the output's length; block and counts are only read
pub record Saves (block : List ℕ) (counts : Counts) (area : List ℕ) (name : ℕ) (area' : List ℕ) (answer output_length : ℕ) : Type 0 where
  pub number : answer ≡ save_number (save block counts area name)
  pub long : output_length ≡ 0
  pub left : area' ≡ area_left (save block counts area name) area

-- a return's number
unfoldable pub return_number : ReturnAnswer → ℕ
return_number (not_returned n) = n
return_number (brought_back k) = 0

-- the block after it: "Returning brings back block and counts in full"
unfoldable pub block_left : ReturnAnswer → List ℕ → List ℕ
block_left (not_returned n) block = block
block_left (brought_back k) block = k.block

-- the counts after it
unfoldable pub counts_left : ReturnAnswer → Counts → Counts
counts_left (not_returned n) counts = counts
counts_left (brought_back k) counts = k.counts

-- a return: from block and counts before it to those after it, with its answer and the output's length; the area is only read
pub record Returns (block : List ℕ) (counts : Counts) (area : List ℕ) (name : ℕ) (block' : List ℕ) (counts' : Counts) (answer output_length : ℕ) : Type 0 where
  pub number : answer ≡ return_number (go_back block area name)
  pub long : output_length ≡ 0
  pub back : block' ≡ block_left (go_back block area name) block
  pub left : counts' ≡ counts_left (go_back block area name) counts

-- the counts after a return that answers r, of a panel that had the old ones
abbrev pub counts_after : Result Stats Refusal → Counts → Counts
counts_after (Ok c) old = counts_of c
counts_after (Err r) old = old

-- what `go_back` answers and leaves, whatever counts the panel has
abbrev pub GoesBack : List ℕ → List ℕ → ℕ → List ℕ → Result Stats Refusal → Type 0
GoesBack block area name block' r = (old : Counts) → Returns block old area name block' (counts_after r old) (answer_of r) 0

-- what a test answers
abbrev pub Tells : Type 0 → Bool → Type 0
Tells P true = P
Tells P false = P → ⊥

-- no byte from a to e is other than 0
abbrev pub Zeros : ℕ → ℕ → List ℕ → Type 0
Zeros a e xs = (j : ℕ) → a ≤ j → j < e → get_or xs j 0 ≡ 0

-- r is the first of k rows with this name, or k
pub record Placed (k name : ℕ) (area : List ℕ) (r : ℕ) : Type 0 where
  pub within : r ≤ k
  pub before : (j : ℕ) → j < r → name_at area j ≡ name → ⊥
  pub found : r < k → name_at area r ≡ name

-- the first k names differ, and the first k blocks are whole
pub record SlotsHold (n k : ℕ) (area : List ℕ) : Type 0 where
  pub names : (p q : ℕ) → p < q → q < k → name_at area p ≡ name_at area q → ⊥
  pub wholes : (i : ℕ) → i < k → whole_block (part (256 + n * i) n area) ≡ true
