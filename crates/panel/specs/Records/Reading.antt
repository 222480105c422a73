-- What the bytes of the input that are there tell of its first record: it is whole, or cut so far, or bad whatever follows.
-- Assumes nothing.
use Rattle.std.specs.Prelude.{ℕ, ◌≤◌, ◌<◌, ◌≡◌, Bool, true, false, ◌&&◌, List, [], ◌∷◌, ◌++◌, eqb, length, drop}
use Rattle.postcard.specs.Number.{got}
use Rattle.postcard.specs.Wide.{Bytes}
use Rattle.protocol.specs.Answer.{Call}
use Rattle.protocol.specs.Panel.{read_record}
use Rattle.panel.specs.declared.records.Record.{Record}
use Rattle.panel.specs.declared.records.Record.TheVariants as record'

-- the call of a record: "link room unbounded", "output 40,960"
abbrev pub record_call : ℕ → List ℕ → Call
record_call now event = record { now = now; event = event; rooms = []; output = 40960 }

-- a whole record: the definition reads its time and its event, and what follows it is left
pub record Whole (bytes : List ℕ) (now : ℕ) (event : List ℕ) (used : ℕ) : Type 0 where
  pub some : 1 ≤ used
  pub inside : used ≤ length bytes
  pub reads : read_record bytes ≡ got (record_call now event) (drop used bytes)

-- no record
pub record Never (bytes : List ℕ) : Type 0 where
  pub never : (k : Call) (rest : List ℕ) → read_record bytes ≡ got k rest → ⊥

-- no record, whatever bytes follow
pub record Bad (bytes : List ℕ) : Type 0 where
  pub always : (more : List ℕ) → Never (bytes ++ more)

-- no record yet; but one with some bytes more, of which there are few
pub record Cut (bytes : List ℕ) : Type 0 where
  pub yet : Never bytes
  pub more : List ℕ
  pub wide : Bytes more
  pub call : Call
  pub rest : List ℕ
  pub reads : read_record (bytes ++ more) ≡ got call rest
  pub few : length bytes < 16404

-- what the answer tells of the bytes
abbrev pub Tells : List ℕ → Record → Type 0
Tells bytes (record'.Whole instant event used) = Whole bytes instant.0 event.now used
Tells bytes record'.Cut = Cut bytes
Tells bytes record'.Bad = Bad bytes

-- the first bytes of a length, its last one not among them, that a length of at most 16,384 begins with: none, one, or 80 80
unfoldable pub may_fit : List ℕ → Bool
may_fit [] = true
may_fit (a ∷ []) = true
may_fit (a ∷ b ∷ []) = eqb a 128 && eqb b 128
may_fit (a ∷ b ∷ c ∷ more) = false
