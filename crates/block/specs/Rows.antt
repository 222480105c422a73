-- What the rows of the block's tables hold, peers by the numbers of their links.
-- Assumes nothing.
use Rattle.std.specs.Prelude.{ℕ, List, drop, replicate}
use Rattle.storage.specs.Rows.Ident.{id_of}
use Rattle.postcard.specs.declared.message.Ihave.{Ihave}
use Rattle.block.specs.View.{id_at, half_at}
use Rattle.block.specs.HopSteps.{pushed_hop}

-- a missing message: its identifier, and the bytes of the list of those who announced it
pub record MissedRow : Type 0 where
  pub id : ℕ
  pub announcers : List ℕ

-- a row made of its two parts
abbrev pub missed : ℕ → List ℕ → MissedRow
missed i hs = record { id = i; announcers = hs }

-- the row that bytes stand for
abbrev pub missed_row : List ℕ → MissedRow
missed_row row = missed (id_at 0 row) (drop 32 row)

-- the row of a message that the peer of a link alone announced
abbrev pub missed_by : ℕ → Ihave → MissedRow
missed_by l h = missed (id_of h.id) (pushed_hop l h.round.0 (replicate 97 0))

-- a note without its link number: the identifier and the round
pub record NotedRow : Type 0 where
  pub id : ℕ
  pub round : ℕ

-- a row made of its two parts
abbrev pub noted : ℕ → ℕ → NotedRow
noted i r = record { id = i; round = r }

-- the row that bytes stand for
abbrev pub noted_row : List ℕ → NotedRow
noted_row row = noted (id_at 0 row) (half_at 32 row)
