-- `dropped_named`: the numbers of table 13.
use Rattle.whole.proofs.Words.{ap, ◌∙◌, arith, lit<, limits_of}
use Rattle.whole.specs.Held.{all_below}
use Rattle.whole.proofs.LentLaws.{bytes-lent}
use Rattle.whole.proofs.tables.Tables.dropped_named.Goals as goal

pub returns : goal.returns
returns c =
    let h = c.args.self.now.head.now in
    let at = c.start-at in
    c.numbers_below.ensures
    ∙ ap (all_below h.live.links) (bytes-lent (limits_of h.limits) c.args.self.now.block.now 13 h.live.dropped at.result (lit< tt) (omega (arith, c.args.self.now.fit.within.dropped)) at.ensures)
