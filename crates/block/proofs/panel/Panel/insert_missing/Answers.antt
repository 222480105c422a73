-- The row more is a missing message more.
use Rattle.block.proofs.Words.{rules, arith, ◌+◌, refl, id_of}
use Rattle.block.specs.Becomes.{Becomes}
use Rattle.block.specs.Heads.{with_missing_count}
use Rattle.block.specs.MissingSteps.{miss_also}
use Rattle.block.proofs.Lent.{given_back}
use Rattle.block.proofs.MissingLaws.{count-missed, missing-in}
use Rattle.block.proofs.panel.Panel.insert_missing.Goals as goal
use Rattle.block.proofs.panel.Panel.insert_missing.Goals.{After-insert}

pub insert-requires : goal.insert-requires
insert-requires c =
    let p = c.args.self.now in
    (omega (arith, c.requires.place.within, count-missed p.head p.block.now), search rules)

goes : (c : After-insert) → let p = c.args.self.now in
    Becomes (miss_also (id_of c.args.id)) p.head p.block.now (with_missing_count (p.head.live.missing + 1) p.head) (given_back c.span.result p.block.now c.insert.new.bytes)
goes c =
    let p = c.args.self.now in
    missing-in p.head p.block.now c.span.result (c.span.ensures _ p.laid_out) c.args.i (id_of c.args.id) c.none-announcers.result.0 c.insert.new.bytes p.sound c.requires.room c.insert.auto.bytes
    c.none-announcers.ensures c.requires.place c.insert.ensures

pub invariant_of-self-clause-sound : goal.invariant_of-self-clause-sound
invariant_of-self-clause-sound c = (goes (goal.at.invariant_of-self-clause-sound c).After-insert).sound

pub returns : goal.returns
returns c = record { state = (goes (goal.at.returns c).After-insert).state; loan = refl }
