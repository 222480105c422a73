-- The start is that of the row.
use Rattle.std.proofs.Common.{arith}
use Rattle.block.proofs.ContentsLaws.Shifts.{first_is, first_past}
use Rattle.block.proofs.caches.contents.start_of.Goals as goal

pub returns-then-j-head : goal.returns-then-j-head
returns-then-j-head c =
    first_is c.args.head.now c.args.block.now c.requires.fit.0 c.args.j _ c.if-j-head.true c.extent_of.ensures.start

pub returns : goal.returns
returns c =
    first_past c.args.head.now c.args.block.now c.requires.fit.0 c.args.j (omega (arith, c.if-j-head.false))
