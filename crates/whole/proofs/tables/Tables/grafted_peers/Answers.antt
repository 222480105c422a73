-- `grafted_peers`: the lists of table 7.
use Rattle.whole.proofs.Words.{rules, ◌∙◌, arith, lit<, limits_of}
use Rattle.whole.specs.Parts.{graft_list}
use Rattle.whole.proofs.LentLaws.{lists-lent}
use Rattle.whole.proofs.HopLaws.{grafted-lists}
use Rattle.whole.proofs.tables.Tables.grafted_peers.Goals as goal

pub returns : goal.returns
returns c =
    let h = c.args.self.now.head.now in
    let xs = c.args.self.now.block.now in
    let at = c.start-at in
    c.lists_pass.ensures (graft_list h.live.links) (λ list r t. search rules)
    ∙ lists-lent (limits_of h.limits) xs (graft_list h.live.links) 22 7 119 h.live.grafted at.result (lit< tt) (omega (arith, c.args.self.now.fit.within.grafted)) at.ensures
    ∙ grafted-lists h xs c.args.self.now.fit c.requires
