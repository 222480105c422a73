-- The contents from a row on adjoin from `at` just if all adjoin from 0.
use Rattle.whole.proofs.Words.{◌≡◌, drop, rows, adjoin}
use Rattle.whole.specs.Parts.{table_of, contents_adjoin}
use Rattle.whole.proofs.tables.Tables.contents_adjoin.Given as goal

abbrev pub invariant-loop-row : goal.invariant-loop-row
invariant-loop-row l =
    let h = l.self.head.now in
    adjoin l.at (drop l.row (rows 48 h.live.cached_rows (table_of h 5 l.self.block.now))) h.live.contents ≡ contents_adjoin h l.self.block.now
