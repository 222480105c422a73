-- `contents::close_contents` meets its contract: one move, and the starts go down by as much.
use Rattle.std.proofs.Common.{arith}
use Rattle.block.proofs.ContentsLaws.Closing.{close-still, close-fit, close-above, close-shifts}
use Rattle.block.proofs.caches.contents.close_contents.Goals as goal

pub returns-then-gap-eq0 : goal.returns-then-gap-eq0
returns-then-gap-eq0 c =
    close-still c.args.head.now c.args.block.now c.requires.ahead (omega (arith, c.if-gap-eq0.true, c.start_of-gap.ensures))

pub shift_rows-requires : goal.shift_rows-requires
shift_rows-requires c =
    let h = c.args.head.now in
    let xs = c.args.block.now in
    let at = c.start-contents.ensures _ c.requires.layout in record {
      fit = (close-fit h xs c.requires.ahead c.start_of-gap.result c.start-contents.result c.move_down.new.bytes c.start_of-gap.ensures at c.move_down.ensures c.move_down.auto.bytes, c.requires.layout);
      there = omega arith;
      above = (omega arith, close-above h xs c.requires.ahead c.start_of-gap.result c.start-contents.result c.move_down.new.bytes c.start_of-gap.ensures at c.move_down.ensures c.move_down.auto.bytes);
    }

pub returns : goal.returns
returns c =
    close-shifts c.args.head.now c.args.block.now c.requires.ahead c.start_of-gap.result c.start-contents.result c.move_down.new.bytes c.start_of-gap.ensures (c.start-contents.ensures _ c.requires.layout) c.move_down.ensures c.move_down.auto.bytes
    c.shift_rows.new.block c.shift_rows.auto.block c.shift_rows.ensures
