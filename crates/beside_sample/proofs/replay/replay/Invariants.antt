-- `replay`: the three arrays keep their lengths.
use Rattle.std.proofs.Common.{◌≡◌, length}
use Rattle.beside_sample.proofs.replay.replay.Given as goal

abbrev pub invariant-records : goal.invariant-records
invariant-records l =
    (length l.block ≡ 65536) × (length l.other ≡ 65536) × (length l.out ≡ 65536)
