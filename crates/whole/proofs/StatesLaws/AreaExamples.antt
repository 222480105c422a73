-- "Named states", computed: areas that question 17 takes and refuses, and names.
-- Assumes nothing.
use Rattle.whole.proofs.Words.{Some, ℕ, ◌≡◌, refl, true, false, List, [], ◌∷◌, ◌++◌, replicate, Entry, entry}
use Rattle.storage.specs.Lists.Base.{all, once, member, concat_map}
use Rattle.storage.specs.Lists.Map.{lookup}
use Rattle.storage.specs.Rows.Part.{part, put}
use Rattle.storage.specs.Rows.Digits.{le_nat, le_bytes}
use Rattle.protocol.specs.Alike.{same_list}
use Rattle.whole.specs.Held.{has_header, held, whole_held, whole_block}
use Rattle.whole.specs.States.Kept.{Kept, keep}
use Rattle.whole.specs.States.Area.{row_bytes, area_bytes, name_at, kept_at, slots, kept, kept_in, area_holds, no_room}

-- a kept state that can be told from others
abbrev of : ℕ → Kept
of n = record { counts = record { payload = n; control = 0; hops = 0 }; block = [] }

-- the names 0 and 1 saved in this order; and the four names 0 to 3
abbrev two : List (Entry Kept)
two = keep (entry 1 (of 11)) (keep (entry 0 (of 10)) [])

abbrev four : List (Entry Kept)
four = keep (entry 3 (of 13)) (keep (entry 2 (of 12)) two)

pub record AreaExamples : Type 0 where
  -- "The area needs four times the block and 256 bytes more, and starts as zeros"; a longer one has zeros behind
  pub enough : area_holds 1 (replicate 260 0) ≡ true
  pub short : area_holds 1 (replicate 259 0) ≡ false
  pub longer : area_holds 1 (replicate 300 0) ≡ true
  pub behind : area_holds 1 (replicate 260 0 ++ (1 ∷ [])) ≡ false
  -- a row that no saving wrote, five states, and a block that is not whole, since it is empty
  pub row : area_holds 0 (1 ∷ replicate 255 0) ≡ false
  pub five : area_holds 0 (replicate 255 0 ++ (5 ∷ [])) ≡ false
  pub empty : area_holds 0 (replicate 255 0 ++ (1 ∷ [])) ≡ false
  -- "Any name is allowed": 0 is one, and all eight bytes are read
  pub zero : lookup 0 two ≡ Some (of 10)
  pub high : name_at (le_bytes 8 72057594037927936) 0 ≡ 72057594037927936
  -- "saving under a used one replaces it", in its place
  pub replaced : keep (entry 0 (of 20)) two ≡ entry 0 (of 20) ∷ entry 1 (of 11) ∷ []
  -- "saving a fifth name", and no used one
  pub fifth : no_room 4 four ≡ true
  pub used : no_room 3 four ≡ false

pub area-examples : AreaExamples
unfolding all once member concat_map lookup part put le_nat le_bytes same_list has_header held whole_held whole_block keep row_bytes area_bytes name_at kept_at slots kept kept_in area_holds no_room
area-examples = record { enough = refl; short = refl; longer = refl; behind = refl; row = refl; five = refl; empty = refl; zero = refl; high = refl; replaced = refl; fifth = refl; used = refl }
