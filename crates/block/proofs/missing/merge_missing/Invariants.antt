-- `merge_missing`: between two rows of the merge. The rounds that were read are of two bytes.
use Rattle.std.proofs.Common.{◌<◌, map, drop}
use Rattle.std.specs.List.{All}
use Rattle.storage.specs.Rows.Sorted.{key_of}
use Rattle.storage.proofs.TablesLaws.Merges.{MergingTo}
use Rattle.block.specs.Rows.{MissedRow, missed_row, missed_by}
use Rattle.block.proofs.MergeLaws.{id_there}
use Rattle.block.proofs.missing.merge_missing.Given as goal

abbrev pub invariant-loop-left : goal.invariant-loop-left
invariant-loop-left l =
    MergingTo (λ (r : MissedRow). r.id) 129 l.n missed_row key_of id_there (map (missed_by l.link) l.fresh) l.initial.table l.front l.left l.table
    × All (λ h. h.round.0 < 65536) (drop l.left l.fresh)
