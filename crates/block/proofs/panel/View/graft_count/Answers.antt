-- The byte read is the number of grafted peers of the view.
use Rattle.std.proofs.Common.{sym, ap, ◌∙◌, subst, ℕ, ◌+◌, ◌≤◌, get_or}
use Rattle.block.proofs.CachesLaws.GraftLaws.{graft-many, graft-few}
use Rattle.block.proofs.panel.View.graft_count.Goals as goal

pub returns : goal.returns
returns c =
    let v = c.args.self.now in
    let e = c.count.ensures.0 ∙ ap (λ (n : ℕ). get_or v.block.now (n + 22) 0) c.graft_at.ensures.at in
    (e ∙ graft-many v.head.now v.block.now v.sound c.args.entry c.requires, subst (λ (n : ℕ). n ≤ 32) (sym e) (graft-few v.head.now v.block.now v.sound c.args.entry c.requires))
