-- Start and length are read from the row.
use Rattle.std.proofs.Common.{arith}
use Rattle.block.proofs.ContentsLaws.Shifts.{extent_read}
use Rattle.block.proofs.caches.contents.extent_of.Goals as goal

pub returns : goal.returns
returns c =
    let fit = c.requires.fit in
    extent_read c.args.head.now c.args.block.now fit.0 c.args.row _ _ c.load.result c.requires.there (omega (arith, c.start.ensures _ fit.1)) (omega arith) c.load.ensures
