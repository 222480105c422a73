-- The word order of the seven rounds, as the table that the code reads: the specification's rules, each over all of its 112 numbers.
-- Assumes nothing.
use Rattle.std.specs.Prelude.{ℕ, suc, ◌≡◌, ◌<◌, ◌+◌, ◌*◌, eqb, length, slice_index}
use Rattle.storage.specs.Lists.Base.{count}
use Rattle.storage.specs.Rows.Part.{part}
use Rattle.blake3.specs.declared.order.TheConstants.{ORDER}
use Rattle.blake3.specs.Blake3.{places}

pub record OrderTable : Type 0 where
  -- "one table of 112 numbers": seven rows of sixteen
  pub long : length ORDER ≡ 112
  -- "row one is 0 to 15"
  pub row_one : (place : ℕ) → place < 16 → slice_index ORDER place ≡ place
  -- "each later row takes places 2 6 3 10 7 0 4 13 1 11 12 5 9 14 15 8 of the row above"
  pub later_rows : (row place : ℕ) → row < 6 → place < 16 → slice_index ORDER (suc row * 16 + place) ≡ slice_index ORDER (row * 16 + slice_index places place)
  -- each row is a permutation: it has each of 0 to 15 once
  pub permutations : (row word : ℕ) → row < 7 → word < 16 → count (eqb word) (part (row * 16) 16 ORDER) ≡ 1
