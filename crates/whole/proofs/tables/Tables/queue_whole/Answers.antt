-- `queue_whole`: the numbers of table 11.
use Rattle.whole.proofs.Words.{ap, ◌∙◌, arith, lit<, limits_of}
use Rattle.whole.specs.Held.{all_below}
use Rattle.whole.specs.Parts.{queue_whole}
use Rattle.whole.proofs.LentLaws.{bytes-lent}
use Rattle.whole.proofs.tables.Tables.queue_whole.Goals as goal

pub returns : goal.returns
unfolding queue_whole
returns c =
    let h = c.args.self.now.head.now in
    let at = c.start-at in
    c.numbers_below.ensures
    ∙ ap (all_below h.live.links) (bytes-lent (limits_of h.limits) c.args.self.now.block.now 11 h.live.queued at.result (lit< tt) (omega (arith, c.args.self.now.fit.within.queued)) at.ensures)
