-- Link numbers of one byte, with rows beside them: after a link came in at i, those from i on are one higher; after link i went, i is dropped and those above it
-- are one lower.
-- Assumes nothing.
use Rattle.std.specs.Prelude.{Bool, not, List, [], ◌∷◌, map, ℕ, ◌-◌, ltb, eqb, take, drop, if◌then◌else◌}
use Rattle.storage.specs.Lists.Base.{filter}
use Rattle.storage.specs.Rows.Part.{part, put}
use Rattle.storage.specs.Rows.Rows.{rows}
use Rattle.storage.specs.Refs.Refs.{Ref, ref, shifted}

-- numbers and rows, read together one by one
unfoldable pub pairs : {A : Type 0} → (ℕ → List ℕ → A) → List ℕ → List (List ℕ) → List A
pairs f [] rs = []
pairs f (l ∷ ls) [] = []
pairs f (l ∷ ls) (r ∷ rs) = f l r ∷ pairs f ls rs

-- n link numbers, a byte each, and beside them n rows of s bytes
unfoldable pub numbered : {A : Type 0} → (ℕ → List ℕ → A) → ℕ → ℕ → List ℕ → List ℕ → List A
numbered f s n numbers bytes = pairs f (take n numbers) (rows s n bytes)

-- n numbers at the start of the bytes and n rows of s bytes at o
abbrev pub entries : ℕ → ℕ → ℕ → List ℕ → List Ref
entries o s n bytes = numbered ref s n bytes (drop o bytes)

-- the n numbers at a, after a link came in at i
unfoldable pub raised : ℕ → ℕ → ℕ → List ℕ → List ℕ
raised i a n bytes = put a (map (shifted i) (part a n bytes)) bytes

-- a link number other than i, once link i is gone
unfoldable pub lowered : ℕ → ℕ → ℕ
lowered i l = if ltb l i then l else l - 1

-- whether a number and the row beside it are left
abbrev pub stays : ℕ → Ref → Bool
stays i r = not (eqb r.place i)

-- a number that is left, and the row beside it
abbrev pub lower : ℕ → Ref → Ref
lower i r = ref (lowered i r.place) r.own

-- what is left of numbers and the rows beside them
unfoldable pub lower_all : ℕ → List Ref → List Ref
lower_all i rs = map (lower i) (filter (stays i) rs)
