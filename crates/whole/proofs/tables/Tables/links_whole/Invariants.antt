-- `links_whole`: the first i peers ascend; a turn compares neighbours.
use Rattle.whole.proofs.Words.{◌<◌, state_of}
use Rattle.storage.specs.Lists.Map.{keys}
use Rattle.storage.proofs.RowsLaws.Sorted.{AscendTo}
use Rattle.whole.proofs.tables.Tables.links_whole.Given as goal

abbrev pub invariant-loop-i : goal.invariant-loop-i
invariant-loop-i l = (0 < l.i) × AscendTo (keys (state_of l.self.head.now l.self.block.now).links) l.i
