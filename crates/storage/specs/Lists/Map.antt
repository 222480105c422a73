-- Maps by number (a peer or an identifier), and sets of numbers: lists whose keys strictly ascend.
use Rattle.std.specs.Prelude.{ℕ, Bool, List, [], ◌∷◌, map, ltb, eqb, if◌then◌else◌, Option, Some, None, is_some}

-- a key and its value
pub record Entry (A : Type 0) : Type 0 where
  pub key : ℕ
  pub value : A

-- the entries, their keys strictly ascending
abbrev pub Map : Type 0 → Type 0
Map A = List (Entry A)

-- an entry made of key and value
abbrev pub entry : {A : Type 0} → ℕ → A → Entry A
entry k v = record { key = k; value = v }

-- the keys, in order
abbrev pub keys : {A : Type 0} → Map A → List ℕ
keys m = map (λ e. e.key) m

-- the value at the key
unfoldable pub lookup : {A : Type 0} → ℕ → Map A → Option A
lookup k [] = None
lookup k (e ∷ m) = if eqb k e.key then Some e.value else lookup k m

-- the key is there
abbrev pub has : {A : Type 0} → ℕ → Map A → Bool
has k m = is_some (lookup k m)

-- puts the value at the key, over what was there
unfoldable pub insert : {A : Type 0} → ℕ → A → Map A → Map A
insert k v [] = entry k v ∷ []
insert k v (e ∷ m) =
    if ltb k e.key then entry k v ∷ e ∷ m
    else if eqb k e.key then entry k v ∷ m
    else e ∷ insert k v m

-- takes the key out
unfoldable pub remove : {A : Type 0} → ℕ → Map A → Map A
remove k [] = []
remove k (e ∷ m) = if eqb k e.key then remove k m else e ∷ remove k m

-- puts a number into a set
unfoldable pub insert_key : ℕ → List ℕ → List ℕ
insert_key k [] = k ∷ []
insert_key k (x ∷ xs) =
    if ltb k x then k ∷ x ∷ xs
    else if eqb k x then x ∷ xs
    else x ∷ insert_key k xs

-- takes a number out of a set
unfoldable pub remove_key : ℕ → List ℕ → List ℕ
remove_key k [] = []
remove_key k (x ∷ xs) = if eqb k x then remove_key k xs else x ∷ remove_key k xs
