-- "Named states", the second lent area, byte by byte: what it keeps, question 17, and what a saving and a return answer.
-- In front stand 256 bytes: a row of 26 for each state kept (name 8, payload 8, control 8, hops 2), zeros, and in the last byte how many are kept. The blocks follow, then zeros.
-- Assumes nothing.
use Rattle.std.specs.Prelude.{ℕ, zero, suc, ◌+◌, ◌*◌, ◌^◌, ◌≤◌, ◌<◌, ◌≡◌, Bool, true, not, ◌&&◌, List, [], ◌∷◌, ◌++◌, leb, eqb, length, get_or, replicate, if◌then◌else◌, Option, Some, None}
use Rattle.storage.specs.Lists.Base.{Exactly, all, once, concat_map}
use Rattle.storage.specs.Lists.Map.{Entry, entry, keys, lookup, has}
use Rattle.storage.specs.Rows.Part.{part, put}
use Rattle.storage.specs.Rows.Digits.{le_nat, le_bytes}
use Rattle.protocol.specs.State.{Counts}
use Rattle.protocol.specs.Alike.{same_list}
use Rattle.whole.specs.Held.{whole_block}
use Rattle.whole.specs.States.Kept.{Kept, keep}

-- the row of a kept state
unfoldable pub row_bytes : Entry Kept → List ℕ
row_bytes k = le_bytes 8 k.key ++ (le_bytes 8 k.value.counts.payload ++ (le_bytes 8 k.value.counts.control ++ le_bytes 2 k.value.counts.hops))

-- the bytes of an area of this length that keeps these states; it "starts as zeros"
unfoldable pub area_bytes : ℕ → List (Entry Kept) → List ℕ
area_bytes long ks = put 255 (length ks ∷ []) (put 256 (concat_map (λ k. k.value.block) ks) (put 0 (concat_map row_bytes ks) (replicate long 0)))

-- the name in row i
unfoldable pub name_at : List ℕ → ℕ → ℕ
name_at area i = le_nat (part (26 * i) 8 area)

-- the counts of the row at `at`
abbrev pub counts_at : List ℕ → ℕ → Counts
counts_at area at = record { payload = le_nat (part (at + 8) 8 area); control = le_nat (part (at + 16) 8 area); hops = le_nat (part (at + 24) 2 area) }

-- the state in slot i, of blocks of n bytes
unfoldable pub kept_at : ℕ → List ℕ → ℕ → Entry Kept
kept_at n area i = entry (name_at area i) (record { counts = counts_at area (26 * i); block = part (256 + n * i) n area })

-- the states of the first k slots
unfoldable pub slots : ℕ → List ℕ → ℕ → List (Entry Kept)
slots n area zero = []
slots n area (suc k) = slots n area k ++ (kept_at n area k ∷ [])

-- how many are kept
unfoldable pub kept : List ℕ → ℕ
kept area = get_or area 255 0

-- the states that an area keeps
unfoldable pub kept_in : ℕ → List ℕ → List (Entry Kept)
kept_in n area = slots n area (kept area)

-- (17) "four times the block and 256 bytes more", "Up to four states", each name once, each block whole, and no byte but those of what it keeps
unfoldable pub area_holds : ℕ → List ℕ → Bool
area_holds n area =
    leb (256 + n * 4) (length area)
    && (leb (kept area) 4
    && (once (keys (kept_in n area))
    && (all (λ k. whole_block k.value.block) (kept_in n area)
    && same_list eqb area (area_bytes (length area) (kept_in n area)))))

-- (16) "saving a fifth name"
unfoldable pub no_room : ℕ → List (Entry Kept) → Bool
no_room name ks = not (has name ks) && leb 4 (length ks)

-- what a saving answers: a number, or the area after it
pub data SaveAnswer : Type 0 where
  not_saved : ℕ → SaveAnswer
  saved_to : List ℕ → SaveAnswer

-- "asked in the order 5, 17, 16 for saving"
unfoldable pub save : List ℕ → Counts → List ℕ → ℕ → SaveAnswer
save block counts area name =
    if not (whole_block block) then not_saved 5
    else if not (area_holds (length block) area) then not_saved 17
    else if no_room name (kept_in (length block) area) then not_saved 16
    else saved_to (area_bytes (length area) (keep (entry name (record { counts = counts; block = block })) (kept_in (length block) area)))

-- what a return answers: a number, or what it brings back
pub data ReturnAnswer : Type 0 where
  not_returned : ℕ → ReturnAnswer
  brought_back : Kept → ReturnAnswer

-- "Returning to a name not kept answers 15"
unfoldable pub or_unknown : Option Kept → ReturnAnswer
or_unknown None = not_returned 15
or_unknown (Some k) = brought_back k

-- "5, 17, 15 for returning"
unfoldable pub go_back : List ℕ → List ℕ → ℕ → ReturnAnswer
go_back block area name =
    if not (whole_block block) then not_returned 5
    else if not (area_holds (length block) area) then not_returned 17
    else or_unknown (lookup name (kept_in (length block) area))

-- a name and counts in the widths that they have in the code
pub record InWidth (n : ℕ) (c : Counts) : Type 0 where
  pub name : n < 256 ^ 8
  pub payload : c.payload < 256 ^ 8
  pub control : c.control < 256 ^ 8
  pub hops : c.hops < 256 ^ 2

-- an area that savings of blocks of n bytes left: it "starts as zeros", long enough, and then each saving was accepted
pub data LeftBy (n : ℕ) : List ℕ → Type 0 where
  zeros : (long : ℕ) → 256 + n * 4 ≤ long → LeftBy n (replicate long 0)
  saved : (area : List ℕ) → LeftBy n area → (block : List ℕ) (counts : Counts) (name : ℕ) → length block ≡ n → InWidth name counts →
      (area' : List ℕ) → save block counts area name ≡ saved_to area' → LeftBy n area'

-- "an area too short, or one that savings of blocks of this length couldn't have left, 17": so question 17 is answered yes exactly of the areas that savings of blocks of n bytes left
pub record AreaExact : Type 0 where
  pub exactly : (n : ℕ) (area : List ℕ) → Exactly (LeftBy n area) (area_holds n area ≡ true)
