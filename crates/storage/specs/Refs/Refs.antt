-- Rows that start with a place: two bytes, low byte first, that name a row of another table by its number.
-- Assumes nothing.
use Rattle.std.specs.Prelude.{Bool, List, map, ℕ, ◌+◌, ◌-◌, ◌<◌, ltb, leb, length, get_or, drop, if◌then◌else◌}
use Rattle.storage.specs.Lists.Base.{filter}
use Rattle.storage.specs.Rows.Part.{part}
use Rattle.storage.specs.Rows.Digits.{le_nat}
use Rattle.storage.specs.Rows.Rows.{rows}

-- a row: the place, and the bytes after it
pub record Ref : Type 0 where
  pub place : ℕ
  pub own : List ℕ

-- a row made of its two parts
abbrev pub ref : ℕ → List ℕ → Ref
ref p bytes = record { place = p; own = bytes }

-- the row that bytes stand for
unfoldable pub ref_of : List ℕ → Ref
ref_of row = ref (le_nat (part 0 2 row)) (drop 2 row)

-- the first n rows of s bytes
unfoldable pub refs : ℕ → ℕ → List ℕ → List Ref
refs s n e = map ref_of (rows s n e)

-- the places of the rows
abbrev pub places : List Ref → List ℕ
places rs = map (λ r. r.place) rs

-- every place is below m
pub record Below (m : ℕ) (ps : List ℕ) : Type 0 where
  pub below : (i : ℕ) → i < length ps → get_or ps i 0 < m

-- a place after a row was put in at i
unfoldable pub shifted : ℕ → ℕ → ℕ
shifted i p = if ltb p i then p else p + 1

-- a row of places after that
abbrev pub moved : ℕ → Ref → Ref
moved i r = ref (shifted i r.place) r.own

-- a row of places after the first k rows that places name are gone
abbrev pub lowered : ℕ → Ref → Ref
lowered k r = ref (r.place - k) r.own

-- the row names none of the first k
abbrev pub names : ℕ → Ref → Bool
names k r = leb k r.place

-- the rows of places that are left after that
unfoldable pub left : ℕ → List Ref → List Ref
left k rs = map (lowered k) (filter (names k) rs)
