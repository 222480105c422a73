-- `place_of`: none of the first i rows has the name.
use Rattle.std.proofs.Common.{◌≡◌, ℕ, ◌≤◌, ◌<◌}
use Rattle.whole.specs.States.Area.{name_at}
use Rattle.whole.proofs.states.place_of.Given as goal

abbrev pub invariant-loop-i : goal.invariant-loop-i
invariant-loop-i l = (l.i ≤ l.k) × ((j : ℕ) → j < l.i → name_at l.area j ≡ l.name → ⊥)
