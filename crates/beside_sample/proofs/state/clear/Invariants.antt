-- `clear`: the slice keeps its length.
use Rattle.std.proofs.Common.{◌≡◌, length}
use Rattle.beside_sample.proofs.state.clear.Given as goal

abbrev pub invariant-loop-i : goal.invariant-loop-i
invariant-loop-i l = length l.b ≡ length l.initial.b
