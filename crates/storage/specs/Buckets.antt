-- Rows of 34 bytes that begin with an identifier; the latest row of a bucket, whatever the buckets are; notes that stand once.
-- Assumes nothing.
use Rattle.std.specs.Prelude.{◌≡◌, Bool, true, false, List, ℕ, ◌+◌, ◌*◌, ◌/◌, ◌%◌, ◌^◌, ◌≤◌, ◌<◌, get_or, length}
use Rattle.storage.specs.Rows.Part.{part}
use Rattle.storage.specs.Rows.Digits.{be_nat}
use Rattle.storage.specs.Rows.Ident.{id_of}
use Rattle.storage.specs.declared.rows.id.Id.{Id}

-- the identifier of row p
unfoldable pub id_at : List ℕ → ℕ → ℕ
id_at b p = be_nat (part (p * 34) 32 b)

-- the bucket of an identifier and a number, of m: the highest twelve of the 64 low bits of what the identifier's last word makes with a multiplier s, and the number.
-- One identifier's notes for numbers below 32 go to different buckets where m is 256 or more
abbrev pub bucket_of : ℕ → ℕ → ℕ → ℕ → ℕ
bucket_of m s k l = (k % 2 ^ 64 * s % 2 ^ 64 / 2 ^ 52 + 8 * l) % m

-- the bucket of row p
abbrev pub bucket : ℕ → ℕ → List ℕ → List ℕ → ℕ → ℕ
bucket m s c b p = bucket_of m s (id_at b p) (get_or c p 0)

-- r is one more than the latest row before i in the bucket g, or 0, where h says the buckets of rows
pub record Latest (h : ℕ → ℕ) (i g r : ℕ) : Type 0 where
  pub within : r ≤ i
  pub hit : (p : ℕ) → r ≡ p + 1 → h p ≡ g
  pub gap : (p : ℕ) → r ≤ p → p < i → h p ≡ g → ⊥

-- each row before i names the latest row before it in its bucket
pub record Chained (h : ℕ → ℕ) (i : ℕ) (next : List ℕ) : Type 0 where
  pub each : (q : ℕ) → q < i → Latest h q (h q) (get_or next q 0)

-- no row before i has the number l and the identifier k
pub record New (c b : List ℕ) (i l k : ℕ) : Type 0 where
  pub new : (p : ℕ) → p < i → get_or c p 0 ≡ l → id_at b p ≡ k → ⊥

-- what a test of that answers
abbrev pub TellsNew : List ℕ → List ℕ → ℕ → ℕ → ℕ → Bool → Type 0
TellsNew c b i l k true = New c b i l k
TellsNew c b i l k false = New c b i l k → ⊥

-- what a test that two numbers and two identifiers agree answers
abbrev pub TellsBoth : ℕ → ℕ → ℕ → ℕ → Bool → Type 0
TellsBoth a l x y true = (a ≡ l) × (x ≡ y)
TellsBoth a l x y false = a ≡ l → x ≡ y → ⊥

-- of the first n rows no two have the same number and identifier
pub record Once (c b : List ℕ) (n : ℕ) : Type 0 where
  pub once : (p q : ℕ) → p < q → q < n → get_or c p 0 ≡ get_or c q 0 → id_at b p ≡ id_at b q → ⊥

-- what a test of that answers
abbrev pub TellsOnce : List ℕ → List ℕ → ℕ → Bool → Type 0
TellsOnce c b n true = Once c b n
TellsOnce c b n false = Once c b n → ⊥

-- of the first n rows no two of the number l have the same identifier
pub record OnceFor (c b : List ℕ) (n l : ℕ) : Type 0 where
  pub once : (p q : ℕ) → p < q → q < n → get_or c p 0 ≡ l → get_or c q 0 ≡ l → id_at b p ≡ id_at b q → ⊥

-- what a test of that answers
abbrev pub TellsOnceFor : List ℕ → List ℕ → ℕ → ℕ → Bool → Type 0
TellsOnceFor c b n l true = OnceFor c b n l
TellsOnceFor c b n l false = OnceFor c b n l → ⊥

-- no two of these identifiers are the same
pub record Differ (ids : List Id) : Type 0 where
  pub differ : (i j : ℕ) (d : Id) → i < j → j < length ids → id_of (get_or ids i d) ≡ id_of (get_or ids j d) → ⊥

-- what a test of that answers
abbrev pub TellsDiffer : List Id → Bool → Type 0
TellsDiffer ids true = Differ ids
TellsDiffer ids false = Differ ids → ⊥

-- more than 256 of the first n rows have the number l: 257 places, each before the one told before it
pub record TooMany (c : List ℕ) (n l : ℕ) : Type 0 where
  pub row : ℕ → ℕ
  pub below : (k : ℕ) → k < 257 → row k < n
  pub link : (k : ℕ) → k < 257 → get_or c (row k) 0 ≡ l
  pub falls : (k m : ℕ) → k < m → m < 257 → row m < row k

-- there are more than 256 of a number
abbrev pub SomeTooMany : List ℕ → ℕ → Type 0
SomeTooMany c n = (l : ℕ) × TooMany c n l
