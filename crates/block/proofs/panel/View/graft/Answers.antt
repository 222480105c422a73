-- Number and round read are a grafted peer of the view.
use Rattle.std.proofs.Common.{ap, subst, ℕ, ◌+◌, arith}
use Rattle.block.specs.HopSteps.{HopIn}
use Rattle.block.proofs.CachesLaws.GraftLaws.{graft-many, graft-few, graft-hop}
use Rattle.block.proofs.panel.View.graft.Goals as goal

pub hop_at-requires : goal.hop_at-requires
hop_at-requires c =
    let v = c.args.self.now in
    let i = c.args.entry in
    (omega (arith, graft-few v.head.now v.block.now v.sound i c.requires.0, graft-many v.head.now v.block.now v.sound i c.requires.0, c.requires.1), omega (arith, c.graft_at.ensures.within))

pub returns : goal.returns
returns c =
    let v = c.args.self.now in
    graft-hop v.head.now v.block.now v.sound c.args.entry c.requires.0 c.args.number c.hop_at.result c.requires.1
    (subst (λ (n : ℕ). HopIn n c.args.number v.block.now c.hop_at.result) (ap (λ (n : ℕ). n + 22) c.graft_at.ensures.at) c.hop_at.ensures)
