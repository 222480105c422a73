-- The contents from a row on adjoin from `at` just if all adjoin from 0.
use Rattle.whole.proofs.Words.{sym, ◌∙◌, refl, arith, rows, length-rows}
use Rattle.whole.specs.Parts.{table_of}
use Rattle.whole.proofs.ContentLaws.{extent-row, adjoin-more, adjoin-not, adjoin-end}
use Rattle.whole.proofs.tables.Tables.contents_adjoin.Goals as goal

pub returns-then-extent-at : goal.returns-then-extent-at
returns-then-extent-at c =
    let l = c.loop-row in
    let h = c.args.self.now.head.now in
    let x = table_of h 5 c.args.self.now.block.now in
    let m = h.live.cached_rows in
    let r = c.extent_of-extent in
    sym (adjoin-not (rows 48 m x) l.at l.row h.live.contents r.result.start (omega (arith, length-rows 48 m x)) (extent-row m l.row x r.result c.loop-row-test.true r.ensures).0 c.if-extent-at.true) ∙ l.invariant

pub loop-row-preserved : goal.loop-row-preserved
loop-row-preserved c =
    let l = c.loop-row in
    let h = c.args.self.now.head.now in
    let x = table_of h 5 c.args.self.now.block.now in
    let m = h.live.cached_rows in
    let r = c.extent_of-extent in
    let is = extent-row m l.row x r.result c.loop-row-test.true r.ensures in
    adjoin-more (rows 48 m x) l.at l.row h.live.contents l.at (omega (arith, length-rows 48 m x)) (sym c.if-extent-at.false ∙ is.0) r.result.len refl is.1 ∙ l.invariant

pub returns : goal.returns
returns c =
    let l = c.loop-row in
    let h = c.args.self.now.head.now in
    let x = table_of h 5 c.args.self.now.block.now in
    sym (adjoin-end (rows 48 h.live.cached_rows x) l.at l.row h.live.contents (omega (arith, length-rows 48 h.live.cached_rows x, c.loop-row-test.false))) ∙ l.invariant
