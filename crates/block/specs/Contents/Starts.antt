-- Start and length of a content in an expiry row of the message cache, and rows whose contents stand one after the other.
-- Assumes nothing.
use Rattle.std.specs.Prelude.{ℕ, ◌+◌, ◌≤◌, ◌<◌, ◌≡◌, List, [], ◌∷◌, length}
use Rattle.storage.specs.Rows.Part.{put}
use Rattle.time_cache.specs.Tables.{ExpiryRow, expiry_row, row_at}
use Rattle.block.specs.View.{four_at}
use Rattle.block.specs.declared.caches.contents.Extent.{Extent}

-- where the content of a row starts among the contents
abbrev pub start_of : ExpiryRow → ℕ
start_of x = four_at 0 x.rest

-- how long the content of a row is
abbrev pub len_of : ExpiryRow → ℕ
len_of x = four_at 4 x.rest

-- start and length, out of the bytes that they have in a row
abbrev pub extent_in : List ℕ → ℕ × ℕ
extent_in bytes = (four_at 0 bytes, four_at 4 bytes)

-- start and length are those of a row
pub record ExtentIs (x : ExpiryRow) (e : Extent) : Type 0 where
  pub start : e.start ≡ start_of x
  pub len : e.len ≡ len_of x

-- start and length are written at a, and nothing else has changed
pub record ExtentPut (a : ℕ) (e : Extent) (xs ys : List ℕ) : Type 0 where
  pub bytes : List ℕ
  pub long : length bytes ≡ 8
  pub holds : extent_in bytes ≡ (e.start, e.len)
  pub put : ys ≡ put a bytes xs

-- where the content of the first row starts; the end of the contents where there is no row
abbrev pub first_start : ℕ → List ExpiryRow → ℕ
first_start e [] = e
first_start e (x ∷ xs) = start_of x

-- the contents of the rows stand one after the other, from a to e
pub data RowsAdjoin : ℕ → List ExpiryRow → ℕ → Type 0 where
  done : {a : ℕ} → RowsAdjoin a [] a
  next : {a e : ℕ} (x : ExpiryRow) (xs : List ExpiryRow) → start_of x ≡ a → RowsAdjoin (a + len_of x) xs e → RowsAdjoin a (x ∷ xs) e

-- a row with other bytes behind its identifier
abbrev pub with_rest : List ℕ → ExpiryRow → ExpiryRow
with_rest bytes x = expiry_row x.time x.key (put 0 bytes x.rest)

-- the same rows, with starts that went up and then down
pub data Along (up down : ℕ) : List ExpiryRow → List ExpiryRow → Type 0 where
  none : Along up down [] []
  more : (x y : ExpiryRow) (xs ys : List ExpiryRow) → y.time ≡ x.time → y.key ≡ x.key → start_of y + down ≡ start_of x + up → len_of y ≡ len_of x → Along up down xs ys → Along up down (x ∷ xs) (y ∷ ys)

-- no start goes below 0, or past four bytes, when it goes up and then down
pub record Above (up down : ℕ) (xs : List ExpiryRow) : Type 0 where
  pub above : (i : ℕ) → i < length xs → down ≤ start_of (row_at xs i) + up
  pub below : (i : ℕ) → i < length xs → start_of (row_at xs i) + up < 4294967296
