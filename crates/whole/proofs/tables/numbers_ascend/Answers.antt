-- `numbers_ascend`: the first i numbers are below it and ascend.
use Rattle.whole.proofs.NumberLaws.{climb-more, climb-high, climb-low, climb-done}
use Rattle.whole.proofs.tables.numbers_ascend.Goals as goal

pub returns-then-link_count-number : goal.returns-then-link_count-number
returns-then-link_count-number c =
    let l = c.loop-i in
    climb-high c.args.link_count c.args.numbers.now l.i l.least l.invariant c.wide-number.result c.wide-number.ensures c.loop-i-test.true c.if-link_count-number.true

pub returns-then-number-least : goal.returns-then-number-least
returns-then-number-least c =
    let l = c.loop-i in
    climb-low c.args.link_count c.args.numbers.now l.i l.least l.invariant c.wide-number.result c.wide-number.ensures c.loop-i-test.true c.if-number-least.true

pub loop-i-preserved : goal.loop-i-preserved
loop-i-preserved c =
    let l = c.loop-i in
    climb-more c.args.link_count c.args.numbers.now l.i l.least l.invariant c.wide-number.result c.wide-number.ensures c.if-link_count-number.false c.if-number-least.false

pub returns : goal.returns
returns c =
    let l = c.loop-i in
    climb-done c.args.link_count c.args.numbers.now l.i l.least l.invariant c.loop-i-test.false
