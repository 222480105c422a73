-- A cache by six numbers, a key by four words, and what the functions answer of them. They ask nothing of their callers: each tests the tables first.
-- Assumes nothing.
use Rattle.std.specs.Prelude.{◌≡◌, Bool, true, false, List, [], ◌∷◌, ℕ, ◌≤◌}
use Rattle.storage.specs.Rows.Ident.{id_of}
use Rattle.time_cache.specs.Tables.{Lies, FitsOneMore, Sound}
use Rattle.time_cache.specs.Steps.{Inserts, Expires}
use Rattle.time_cache.specs.declared.cache.TimeBoundCache.{TimeBoundCache}
use Rattle.time_cache.specs.declared.cache.Inserted.{Inserted}
use Rattle.time_cache.specs.declared.cache.Expired.{Expired}

-- where the entries and the expiry rows start, how many bytes a row has, and how many rows there are
abbrev pub handed : ℕ → ℕ → ℕ → ℕ → ℕ → ℕ → TimeBoundCache
handed a s n b t m = record { entries = record { at = a; stride = s; len = n }; expiry = record { at = b; stride = t; len = m } }

-- the key of four words, the first the highest
abbrev pub key_of : ℕ → ℕ → ℕ → ℕ → ℕ
key_of w0 w1 w2 w3 = id_of (record { w0 = w0; w1 = w1; w2 = w2; w3 = w3 })

-- the tables lie in the block, and are sound
abbrev pub Whole : TimeBoundCache → List ℕ → Type 0
Whole c block = Lies c block × Sound c block

-- the same, and there are no more entries than a cache of a panel has
abbrev pub Few : TimeBoundCache → List ℕ → Type 0
Few c block = (c.entries.len ≤ 2048) × Whole c block

-- there is room for one row more in each, and they are sound
abbrev pub Ready : TimeBoundCache → List ℕ → Type 0
Ready c block = FitsOneMore c block × Sound c block

-- r tells whether P holds
abbrev pub Tells : Type 0 → Bool → Type 0
Tells P true = P
Tells P false = P → ⊥

-- r is n where P holds, and 0 where it does not
abbrev pub Said : Type 0 → ℕ → ℕ → Type 0
Said P n r = (P → r ≡ n) × ((P → ⊥) → r ≡ 0)

-- r tells whether P holds; where it does, D was done, and where it does not, nothing has changed, neither the block nor what is told
abbrev pub Done : Type 0 → Type 0 → List ℕ → List ℕ → List ℕ → List ℕ → Bool → Type 0
Done P D xs ys out out' true = P × D
Done P D xs ys out out' false = (P → ⊥) × (ys ≡ xs) × (out' ≡ out)

-- what `insert` leaves and answers; what is told is the numbers of entries and rows, and where the key's entry and its row stand
pub record ToldInsert (c : TimeBoundCache) (k t : ℕ) (xs ys out : List ℕ) : Type 0 where
  pub inserted : Inserted
  pub inserts : Inserts c k t xs inserted ys
  pub told : out ≡ inserted.cache.entries.len ∷ inserted.cache.expiry.len ∷ inserted.entry ∷ inserted.row ∷ []

-- what `expire_until` leaves and answers; what is told is the numbers of entries and rows, and of the keys that were removed
pub record ToldExpire (c : TimeBoundCache) (t : ℕ) (xs ys out : List ℕ) : Type 0 where
  pub expired : Expired
  pub expires : Expires c t xs expired ys
  pub told : out ≡ expired.cache.entries.len ∷ expired.cache.expiry.len ∷ expired.removed ∷ []
