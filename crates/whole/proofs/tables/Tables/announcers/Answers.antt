-- `announcers`: the lists of table 9.
use Rattle.whole.proofs.Words.{rules, ◌∙◌, arith, lit<, limits_of}
use Rattle.whole.specs.Parts.{missed_list}
use Rattle.whole.proofs.LentLaws.{lists-lent}
use Rattle.whole.proofs.HopLaws.{missing-lists}
use Rattle.whole.proofs.tables.Tables.announcers.Goals as goal

pub returns : goal.returns
returns c =
    let h = c.args.self.now.head.now in
    let xs = c.args.self.now.block.now in
    let at = c.start-at in
    c.lists_pass.ensures (missed_list h.live.links) (λ list r t. search rules)
    ∙ lists-lent (limits_of h.limits) xs (missed_list h.live.links) 32 9 129 h.live.missing at.result (lit< tt) (omega (arith, c.args.self.now.fit.within.missing)) at.ensures
    ∙ missing-lists h xs c.args.self.now.fit c.requires
