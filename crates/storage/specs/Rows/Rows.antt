-- A table: n rows of s bytes each at the start of a slice.
-- Assumes nothing.
use Rattle.std.specs.Prelude.{ℕ, zero, suc, ◌+◌, ◌-◌, ◌*◌, Bool, not, List, [], ◌∷◌, eqb, take, drop, get_or}
use Rattle.storage.specs.Rows.Part.{part, put}
use Rattle.storage.specs.Rows.Digits.{le_nat}

-- the first n rows of s bytes
unfoldable pub rows : ℕ → ℕ → List ℕ → List (List ℕ)
rows s zero xs = []
rows s (suc n) xs = take s xs ∷ rows s n (drop s xs)

-- the number in the eight bytes at o of a row, low byte first
unfoldable pub field_of : ℕ → List ℕ → ℕ
field_of o row = le_nat (part o 8 row)

-- the byte at o of a row is not v
abbrev pub differs : ℕ → ℕ → List ℕ → Bool
differs o v row = not (eqb (get_or row o 0) v)

-- the bytes, with the rows i to n moved up by one row: the row i is then a gap, which holds what was there
unfoldable pub opened : ℕ → ℕ → ℕ → List ℕ → List ℕ
opened s n i xs = put (i * s + s) (part (i * s) ((n - i) * s) xs) xs

-- the bytes, with the rows j to n moved down to i
unfoldable pub closed : ℕ → ℕ → ℕ → ℕ → List ℕ → List ℕ
closed s n i j xs = put (i * s) (part (j * s) ((n - j) * s) xs) xs
