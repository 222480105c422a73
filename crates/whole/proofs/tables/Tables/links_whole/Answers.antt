-- `links_whole`: the first i peers ascend; a turn compares neighbours.
use Rattle.whole.proofs.Words.{true, false, arith, tells-ascending, state_of, count-peers}
use Rattle.storage.specs.Lists.Map.{keys}
use Rattle.storage.proofs.RowsLaws.Sorted.{ascend-more, ascend-done, ascend-not}
use Rattle.whole.specs.Parts.{links_whole}
use Rattle.whole.proofs.tables.Tables.links_whole.Goals as goal

pub loop-i-preserved : goal.loop-i-preserved
loop-i-preserved c =
    let l = c.loop-i in
    let ks = keys (state_of c.args.self.now.head.now c.args.self.now.block.now).links in
    (omega arith, ascend-more ks l.i l.invariant.0 l.invariant.1 (omega (arith, c.if-peer_at.false, c.peer_at.ensures, c.peer_at-in-loop-i.ensures)))

pub returns-then-peer_at : goal.returns-then-peer_at
unfolding links_whole
returns-then-peer_at c =
    let l = c.loop-i in
    let ks = keys (state_of c.args.self.now.head.now c.args.self.now.block.now).links in
    tells-ascending ks false
    (ascend-not ks l.i l.invariant.0 (omega (arith, c.loop-i-test.true, count-peers c.args.self.now.head.now c.args.self.now.block.now))
    (omega (arith, c.if-peer_at.true, c.peer_at.ensures, c.peer_at-in-loop-i.ensures)))

pub returns : goal.returns
unfolding links_whole
returns c =
    let ks = keys (state_of c.args.self.now.head.now c.args.self.now.block.now).links in
    tells-ascending ks true (ascend-done ks c.loop-i.i c.args.self.now.head.now.live.links (count-peers c.args.self.now.head.now c.args.self.now.block.now) c.loop-i-test.false c.loop-i.invariant.1)
