-- `tables::same_bytes`: the first i bytes agree.
use Rattle.std.proofs.Common.{◌≡◌, true, ℕ, ◌≤◌, ◌<◌, eqb, length, get_or}
use Rattle.alike.proofs.tables.same_bytes.Given as goal

abbrev pub invariant-loop-i : goal.invariant-loop-i
invariant-loop-i l = (l.i ≤ length l.a) × ((k : ℕ) → k < l.i → eqb (get_or l.a k 0) (get_or l.b k 0) ≡ true)
