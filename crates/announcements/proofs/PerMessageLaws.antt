-- How many identifiers an IHave takes.
-- Assumes nothing.
use Rattle.announcements.proofs.Words.{ℕ, ◌≤◌, arith, leb-true, leb, State, and_left, and_right}
use Rattle.protocol.specs.State.{size_in_range}
use Rattle.protocol.specs.Consistent.{Ranged}
use Rattle.protocol.specs.Ticks.{per_message}

pub size_low : (s : State) → Ranged s → 510 ≤ s.settings.max_message_size
unfolding size_in_range
size_low s r = leb-true 510 s.settings.max_message_size (and_left (leb 510 s.settings.max_message_size) (leb s.settings.max_message_size 4094) r.size)

-- how many identifiers an IHave has
pub record PerMessage (k : ℕ) : Type 0 where
  pub some : 1 ≤ k
  pub few : k ≤ 116

pub per-message : (s : State) → Ranged s → PerMessage (per_message s.settings.max_message_size)
unfolding per_message size_in_range
per-message s r =
    let high : s.settings.max_message_size ≤ 4094 = leb-true s.settings.max_message_size 4094 (and_right (leb 510 s.settings.max_message_size) (leb s.settings.max_message_size 4094) r.size) in
    record { some = omega (arith, size_low s r); few = omega arith }
