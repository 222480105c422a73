-- `ascending`: the first i keys ascend; a turn compares neighbours.
use Rattle.storage.specs.Rows.Sorted.{keys}
use Rattle.storage.proofs.RowsLaws.Sorted.{AscendTo}
use Rattle.storage.proofs.rows.table.ascending.Given as goal

abbrev pub invariant-loop-i : goal.invariant-loop-i
invariant-loop-i l = AscendTo (keys l.stride l.n l.bytes) l.i
