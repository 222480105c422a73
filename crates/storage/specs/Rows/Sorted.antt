-- Tables in the order of their keys: the first 32 bytes of a row are its key, and the keys ascend strictly.
-- Assumes nothing.
use Rattle.std.specs.Prelude.{◌≡◌, Bool, true, false, List, map, ℕ, ◌≤◌, ◌<◌, length, get_or, Result, Ok, Err}
use Rattle.storage.specs.Rows.Part.{part}
use Rattle.storage.specs.Rows.Digits.{be_nat}
use Rattle.storage.specs.Rows.Rows.{rows}

-- the key of a row
unfoldable pub key_of : List ℕ → ℕ
key_of row = be_nat (part 0 32 row)

-- the keys of the n rows
unfoldable pub keys : ℕ → ℕ → List ℕ → List ℕ
keys s n xs = map key_of (rows s n xs)

-- each key is below every later one
pub record Ascending (ks : List ℕ) : Type 0 where
  pub up : (p q : ℕ) → p < q → q < length ks → get_or ks p 0 < get_or ks q 0

-- the keys before i are below k, and those from i on are above it
pub record Between (ks : List ℕ) (k i : ℕ) : Type 0 where
  pub within : i ≤ length ks
  pub below : (j : ℕ) → j < i → get_or ks j 0 < k
  pub above : (j : ℕ) → i ≤ j → j < length ks → k < get_or ks j 0

-- k is the key of row i
pub record Here (ks : List ℕ) (k i : ℕ) : Type 0 where
  pub within : i < length ks
  pub same : get_or ks i 0 ≡ k

-- what a search for k in the keys answers
abbrev pub FoundIs : List ℕ → ℕ → Result ℕ ℕ → Type 0
FoundIs ks k (Ok i) = Here ks k i
FoundIs ks k (Err i) = Between ks k i

-- what a test of the order answers
abbrev pub TellsAscending : List ℕ → Bool → Type 0
TellsAscending ks true = Ascending ks
TellsAscending ks false = Ascending ks → ⊥
