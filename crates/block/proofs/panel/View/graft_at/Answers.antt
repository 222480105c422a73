-- Where the table of grafted entries starts, and as many entries on.
use Rattle.std.proofs.Common.{arith}
use Rattle.block.proofs.CachesLaws.GraftLaws.{entry-below}
use Rattle.block.proofs.panel.View.graft_at.Goals as goal

pub overflow_mul-result : goal.overflow_mul-result
overflow_mul-result c = let v = c.args.self.now in omega (arith, entry-below v.head.now v.block.now v.sound c.args.entry c.requires, v.sound.fit.within, v.sound.fit.ceilings)

pub overflow_add-result : goal.overflow_add-result
overflow_add-result c = let v = c.args.self.now in omega (arith, entry-below v.head.now v.block.now v.sound c.args.entry c.requires, v.sound.fit.within, v.sound.fit.ceilings, c.start.ensures)

pub returns-clause-within : goal.returns-clause-within
returns-clause-within c = let v = c.args.self.now in omega (arith, entry-below v.head.now v.block.now v.sound c.args.entry c.requires, v.sound.fit, c.start.ensures)
