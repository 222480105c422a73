-- A limit is told exactly of a call that is answered 13.
-- Assumes nothing.
use Rattle.std.specs.Prelude.{ℕ, ◌≡◌, List, length}
use Rattle.blake3.specs.Blake3.{identifier}
use Rattle.protocol.specs.State.{Counts, zero_counts}
use Rattle.protocol.specs.Answer.{Call, refused, answer_block}
use Rattle.whole.specs.Held.{held}
use Rattle.machine.specs.LimitMet.LimitMet.{asking, limit_met}

-- the limit that is told of the call upon this block, 0 where none is
abbrev pub limit_told_of : List ℕ → Call → ℕ
limit_told_of block k = limit_met identifier (length block) (held block) (asking k.now k.event k.rooms)

pub record LimitMetExact : Type 0 where
  -- whatever the counts, a call that is answered 13 is told a limit
  pub met : (block : List ℕ) (k : Call) (c : Counts) → answer_block identifier (length block) (held block) c k ≡ refused 13 → limit_told_of block k ≡ 0 → ⊥
  -- and what is told a limit is answered 13, with the counts zero
  pub refused_13 : (block : List ℕ) (k : Call) → (limit_told_of block k ≡ 0 → ⊥) → answer_block identifier (length block) (held block) zero_counts k ≡ refused 13
