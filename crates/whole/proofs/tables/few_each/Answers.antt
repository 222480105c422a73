-- `few_each`: a count for each number of the first i, at most 256.
use Rattle.std.proofs.Common.{refl, ◌<◌, arith}
use Rattle.whole.proofs.RecordLaws.{counted_start, counted-more, counted-over, counted-done, few-short}
use Rattle.whole.proofs.tables.few_each.Goals as goal
use Rattle.whole.proofs.tables.few_each.Goals.{After-wide-number}

-- the number that was read is below 32
low : (c : After-wide-number) → c.wide-number.result < 32
low c = omega (arith, c.wide-number.ensures, c.requires.below c.loop-i.i c.loop-i-test.true)

pub returns-then-numbers-le-MAX_DROPPED_PER_PEER : goal.returns-then-numbers-le-MAX_DROPPED_PER_PEER
returns-then-numbers-le-MAX_DROPPED_PER_PEER c = few-short c.args.numbers.now c.if-numbers-le-MAX_DROPPED_PER_PEER.true

pub loop-i-init : goal.loop-i-init
loop-i-init c = counted_start c.args.numbers.now _ refl

pub returns-then-counts-number : goal.returns-then-counts-number
returns-then-counts-number c =
    let l = c.loop-i in
    counted-over c.args.numbers.now l.counts l.i c.wide-number.result l.invariant c.loop-i-test.true c.wide-number.ensures (low (goal.at.returns-then-counts-number c).After-wide-number) c.if-counts-number.true

pub loop-i-preserved : goal.loop-i-preserved
loop-i-preserved c =
    let l = c.loop-i in
    counted-more c.args.numbers.now l.counts l.i c.wide-number.result l.invariant c.loop-i-test.true c.wide-number.ensures (low (goal.at.loop-i-preserved c).After-wide-number) c.if-counts-number.false

pub returns : goal.returns
returns c = counted-done c.args.numbers.now c.loop-i.counts c.loop-i.i c.loop-i.invariant c.loop-i-test.false
