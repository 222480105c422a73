-- `lower::drop_notes`: of the first j notes, those that are left stand first (`Going`); their numbers are lowered at the end.
use Rattle.block.proofs.Words.{◌≡◌, [], ◌-◌, length, ref, Ref, entries, stays}
use Rattle.storage.proofs.RowsLaws.Kept.{Going}
use Rattle.block.proofs.renumber.lower.drop_notes.Given as goal

abbrev pub invariant-loop-j : goal.invariant-loop-j
invariant-loop-j l = Going (stays l.i) (λ (r : Ref). r) (ref 0 []) (entries l.at 34 l.n l.initial.bytes) (entries l.at 34 l.n l.bytes) l.kept l.j × (length l.bytes ≡ length l.initial.bytes)

abbrev pub decreases-loop-j : goal.decreases-loop-j
decreases-loop-j l = l.n - l.j
