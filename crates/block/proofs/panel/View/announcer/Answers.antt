-- Number and round read are an announcer.
use Rattle.std.proofs.Common.{subst, ℕ, arith}
use Rattle.block.specs.HopSteps.{HopIn}
use Rattle.block.proofs.MissingLaws.{missing-below, list-within, missed-count, missed-few, missed-hop}
use Rattle.block.proofs.panel.View.announcer.Goals as goal

pub hop_at-requires : goal.hop_at-requires
hop_at-requires c =
    let v = c.args.self.now in
    let i = c.args.missing in
    let q = missing-below v.head.now v.block.now i c.requires.0 in
    let few = missed-few v.head.now v.block.now v.sound i q in
    let count = missed-count v.head.now v.block.now v.sound i q in
    (omega (arith, few, count, c.requires.1), omega (arith, list-within v.head.now v.block.now v.sound i q, c.announcers_at.ensures))

pub returns : goal.returns
returns c =
    let v = c.args.self.now in
    let i = c.args.missing in
    missed-hop v.head.now v.block.now v.sound i (missing-below v.head.now v.block.now i c.requires.0) c.args.number c.hop_at.result c.requires.1
    (subst (λ (n : ℕ). HopIn n c.args.number v.block.now c.hop_at.result) c.announcers_at.ensures c.hop_at.ensures)
