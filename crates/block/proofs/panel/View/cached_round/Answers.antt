-- The bytes read are the round of the view.
use Rattle.std.proofs.Common.{arith}
use Rattle.block.proofs.CachesLaws.ContentReads.{entry-below, round_is}
use Rattle.block.proofs.panel.View.cached_round.Goals as goal

pub overflow_mul-at : goal.overflow_mul-at
overflow_mul-at c = let v = c.args.self.now in omega (arith, entry-below v.head.now v.block.now v.sound c.args.entry c.requires, v.sound.fit.within, v.sound.fit.ceilings)

pub overflow_add-at : goal.overflow_add-at
overflow_add-at c = let v = c.args.self.now in omega (arith, entry-below v.head.now v.block.now v.sound c.args.entry c.requires, v.sound.fit.within, v.sound.fit.ceilings, c.start.ensures)

pub overflow_add-at-2 : goal.overflow_add-at-2
overflow_add-at-2 c = let v = c.args.self.now in omega (arith, entry-below v.head.now v.block.now v.sound c.args.entry c.requires, v.sound.fit.within, v.sound.fit.ceilings, c.start.ensures)

pub load2-requires : goal.load2-requires
load2-requires c = let v = c.args.self.now in omega (arith, entry-below v.head.now v.block.now v.sound c.args.entry c.requires, v.sound.fit, c.start.ensures)

pub returns : goal.returns
returns c =
    let v = c.args.self.now in
    round_is v.head.now v.block.now v.sound c.args.entry c.requires c.start.result _ c.start.ensures c.load2.ensures.0
