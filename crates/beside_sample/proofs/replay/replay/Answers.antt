-- `replay`: the three arrays keep their lengths.
use Rattle.std.proofs.Common.{ℕ}
use lib.ListN.{length-replicate}
use Rattle.beside_sample.proofs.replay.replay.Goals as goal

pub records-init : goal.records-init
records-init c =
    (length-replicate {A = ℕ} 65536 0, length-replicate {A = ℕ} 65536 0, length-replicate {A = ℕ} 65536 0)
