-- The raised numbers and the row more are a link more.
use Rattle.block.proofs.Words.{refl, ◌+◌, arith, lit<, insert}
use Rattle.block.specs.View.{limits_of}
use Rattle.block.specs.Becomes.{Becomes}
use Rattle.block.specs.Heads.{with_link_count}
use Rattle.block.specs.LinkSteps.{linked, mark_value}
use Rattle.block.proofs.Lent.{given_back, lent-room}
use Rattle.block.proofs.LinkLaws.{count-peers, link-room}
use Rattle.block.proofs.NeighboursLaws.LinkIn.{link-in}
use Rattle.block.proofs.panel.Panel.insert_link.Goals as goal
use Rattle.block.proofs.panel.Panel.insert_link.Goals.{After-insert}

pub raise_links-requires : goal.raise_links-requires
raise_links-requires c = let p = c.args.self.now in record { sound = (p.sound, p.laid_out); there = omega (arith, c.requires.place.within, count-peers p.head p.block.now) }

pub insert-requires : goal.insert-requires
insert-requires c =
    let p = c.args.self.now in
    let long = lent-room (limits_of p.head.limits) 1 c.span.result c.raise_links.new.block (lit< tt) (c.span.ensures _ p.laid_out) c.raise_links.ensures.fit.long in
    (omega (arith, c.requires.place.within, count-peers p.head p.block.now), omega (arith, link-room p.head p.block.now c.requires.room, long))

goes : (c : After-insert) → let p = c.args.self.now in
    Becomes (linked (insert c.args.peer (mark_value c.args.mark))) p.head p.block.now (with_link_count (p.head.live.links + 1) p.head) (given_back c.span.result c.raise_links.new.block c.insert.new.bytes)
goes c =
    let p = c.args.self.now in
    link-in p.head p.block.now c.args.number c.args.peer (mark_value c.args.mark) c.requires.place (link-room p.head p.block.now c.requires.room)
    c.raise_links.new.block c.raise_links.ensures c.span.result (c.span.ensures _ p.laid_out) c.insert.new.bytes c.insert.auto.bytes c.insert.ensures

pub invariant_of-self-clause-sound : goal.invariant_of-self-clause-sound
invariant_of-self-clause-sound c = (goes (goal.at.invariant_of-self-clause-sound c).After-insert).sound

pub returns : goal.returns
returns c = record { state = (goes (goal.at.returns c).After-insert).state; loan = refl }
