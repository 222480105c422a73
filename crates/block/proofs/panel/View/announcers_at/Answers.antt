-- The list lies in the block, whose bytes can be counted.
use Rattle.std.proofs.Common.{◌+◌, ◌*◌, ◌<◌, ◌^◌, arith}
use Rattle.block.specs.Layout.{place}
use Rattle.block.specs.View.{limits_of}
use Rattle.block.proofs.MissingLaws.{missing-below}
use Rattle.block.proofs.panel.View.announcers_at.Goals as goal
use Rattle.block.proofs.panel.View.announcers_at.Goals.{Start}

few : (s : Start) → let v = s.args.self.now in place (limits_of v.head.now.limits) 9 + 129 * s.args.missing + 32 < 2 ^ 32
few s = let v = s.args.self.now in omega (arith, missing-below v.head.now v.block.now s.args.missing s.requires, v.sound.fit.within.missing, v.sound.fit.ceilings)

pub overflow_mul-result : goal.overflow_mul-result
overflow_mul-result c = omega (arith, few (goal.at.overflow_mul-result c).Start)

pub overflow_add-result : goal.overflow_add-result
overflow_add-result c = omega (arith, few (goal.at.overflow_add-result c).Start, c.start.ensures)

pub overflow_add-result-2 : goal.overflow_add-result-2
overflow_add-result-2 c = omega (arith, few (goal.at.overflow_add-result-2 c).Start, c.start.ensures)
