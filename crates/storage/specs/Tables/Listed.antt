-- A table as the list of what its rows hold.
-- Assumes nothing.
use Rattle.std.specs.Prelude.{ℕ, ◌+◌, ◌-◌, List, [], ◌∷◌, ◌++◌, map, take, drop, ltb, if◌then◌else◌}
use Rattle.storage.specs.Rows.Part.{part, put}
use Rattle.storage.specs.Rows.Rows.{rows}

module _ {A : Type 0} where
  -- what the first n rows of w bytes hold, each read by f
  abbrev pub listed : ℕ → (List ℕ → A) → ℕ → List ℕ → List A
  listed w f n xs = map f (rows w n xs)

  -- the list with x before its element i
  abbrev pub inserted : ℕ → A → List A → List A
  inserted i x l = take i l ++ (x ∷ drop i l)

  -- the list without its element i
  abbrev pub removed : ℕ → List A → List A
  removed i l = take i l ++ drop (i + 1) l

  -- the list with its elements i to n moved up by k, and x before them
  abbrev pub merged : ℕ → ℕ → ℕ → A → List A → List A
  merged n i k x l = put (i + k - 1) (x ∷ part i (n - i) l) l

-- lists in the order of a key
module _ {A : Type 0} (key : A → ℕ) where
  -- the list with x before the first element whose key is greater
  unfoldable pub inserted_by : A → List A → List A
  inserted_by x [] = x ∷ []
  inserted_by x (y ∷ l) = if ltb (key x) (key y) then x ∷ y ∷ l else y ∷ inserted_by x l

  -- the list with each of these so, from the last on
  unfoldable pub inserted_all : List A → List A → List A
  inserted_all [] l = l
  inserted_all (x ∷ xs) l = inserted_by x (inserted_all xs l)
