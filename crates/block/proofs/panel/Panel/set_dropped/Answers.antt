-- Number and row are another note in their place.
use Rattle.block.proofs.Words.{ap, ℕ, ◌+◌, ◌-◌, arith, length-set, refl, set, drop, id_of}
use Rattle.std.proofs.Common.{length-take-le, length-drop}
use Rattle.block.specs.Becomes.{Becomes}
use Rattle.block.specs.NoteSteps.{drop_instead}
use Rattle.block.specs.declared.note.NoteTable.TheVariants.{Record}
use Rattle.block.proofs.Lent.{given_back}
use Rattle.block.proofs.LinkLaws.{count-links}
use Rattle.block.proofs.NoteLaws.{note-other, count-dropped}
use Rattle.block.proofs.panel.Panel.set_dropped.Goals as goal
use Rattle.block.proofs.panel.Panel.set_dropped.Goals.{After-store}

pub overflow_add-at : goal.overflow_add-at
overflow_add-at c = let p = c.args.self.now in omega (arith, c.requires.0, count-dropped p.head p.block.now p.sound, rw c.view-view.ensures.head at c.numbers_at.ensures.room, p.sound.fit.ceilings)

pub overflow_cast-block : goal.overflow_cast-block
overflow_cast-block c = let p = c.args.self.now in omega (arith, c.requires.1, count-links p.head p.block.now, p.sound.fit.within.links, p.sound.fit.ceilings.N)

pub bounds-block-at : goal.bounds-block-at
bounds-block-at c = let p = c.args.self.now in omega (arith, c.requires.0, count-dropped p.head p.block.now p.sound, rw c.view-view.ensures.head at c.numbers_at.ensures.room, p.sound.fit.long)

pub store-requires : goal.store-requires
store-requires c =
    let p = c.args.self.now in
    let r = c.note_rows-rows.result in
    let xs = set p.block.now (c.numbers_at.result + c.args.row) c.args.note.link in (
      omega (arith, c.requires.0, count-dropped p.head p.block.now p.sound),
      omega (arith, rw c.view-view.ensures.head at c.note_rows-rows.ensures.within, rw c.view-view.ensures.head at c.note_rows-rows.ensures.room, p.sound.fit.long, length-take-le (r.end - r.start) (drop r.start xs), length-drop r.start xs, length-set {A = ℕ}),
    )

goes : (c : After-store) → let p = c.args.self.now in
    Becomes (drop_instead c.args.row c.args.note.link (id_of c.args.note.id) c.args.note.round.0) p.head p.block.now p.head
    (given_back c.note_rows-rows.result (set p.block.now (c.numbers_at.result + c.args.row) c.args.note.link) c.store.new.bytes)
goes c =
    let p = c.args.self.now in
    note-other p.head p.block.now p.sound Record c.args.row c.args.note.link (id_of c.args.note.id) c.args.note.round.0 _ c.note_rows-rows.result c.store.new.bytes c.requires.1
    (ap (λ (n : ℕ). n + c.args.row) (rw c.view-view.ensures.head at c.numbers_at.ensures.place)) (rw c.view-view.ensures.head at c.note_rows-rows.ensures.span) c.store.auto.bytes c.requires.0 (cc (c.store.ensures, c.row.ensures))

pub invariant_of-self-clause-sound : goal.invariant_of-self-clause-sound
invariant_of-self-clause-sound c = (goes (goal.at.invariant_of-self-clause-sound c).After-store).sound

pub returns : goal.returns
returns c = record { state = (goes (goal.at.returns c).After-store).state; loan = refl }
