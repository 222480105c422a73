-- Number and row are a note more.
use Rattle.block.proofs.Words.{◌≡◌, subst, ap, ◌∙◌, suc, ℕ, ◌+◌, arith, length-set, refl, set, id_of}
use Rattle.block.specs.Layout.{span}
use Rattle.block.specs.View.{limits_of}
use Rattle.block.specs.declared.head.Head.{Head}
use Rattle.block.specs.Becomes.{Becomes}
use Rattle.block.specs.NoteSteps.{numbers_of, note_also, with_note_count}
use Rattle.block.specs.declared.note.NoteTable.{NoteTable}
use Rattle.block.specs.declared.note.NoteTable.TheVariants.{Queue, Record}
use Rattle.block.proofs.Lent.{given_back}
use Rattle.block.proofs.LinkLaws.{count-links}
use Rattle.block.proofs.NoteLaws.{note-more}
use Rattle.block.proofs.panel.Panel.push_note.Goals as goal
use Rattle.block.proofs.panel.Panel.push_note.Goals.{After-push}

pub overflow_add-at : goal.overflow_add-at
overflow_add-at c = let p = c.args.self.now in omega (arith, c.count-n.ensures, rw c.view-view.ensures.head at c.numbers_at.ensures.room, p.sound.fit.ceilings)

pub bounds-block-at : goal.bounds-block-at
bounds-block-at c = let p = c.args.self.now in omega (arith, c.count-n.ensures, rw c.view-view.ensures.head at c.numbers_at.ensures.room, p.sound.fit.long)

pub overflow_cast-block : goal.overflow_cast-block
overflow_cast-block c = let p = c.args.self.now in omega (arith, c.requires.link, count-links p.head p.block.now, p.sound.fit.within.links, p.sound.fit.ceilings.N)

pub slice_bounds-push-end : goal.slice_bounds-push-end
slice_bounds-push-end c = let p = c.args.self.now in omega (arith, length-set {A = ℕ}, rw c.view-view.ensures.head at c.note_rows-rows.ensures.within, p.sound.fit.long)

-- for the table as the match has it
goes : (c : After-push) (of : NoteTable) → c.args.of ≡ of → let p = c.args.self.now in
    Becomes (note_also c.args.of c.args.note.link (id_of c.args.note.id) c.args.note.round.0) p.head p.block.now (with_note_count of (c.count-n.result + 1) p.head)
    (given_back c.note_rows-rows.result (set p.block.now (c.numbers_at.result + c.count-n.result) c.args.note.link) c.push.new.bytes)
goes c of e =
    let p = c.args.self.now in
    let n = c.count-n.result in
    subst (λ (t : NoteTable). Becomes (note_also c.args.of c.args.note.link (id_of c.args.note.id) c.args.note.round.0) p.head p.block.now (with_note_count t (n + 1) p.head) (given_back c.note_rows-rows.result (set p.block.now (c.numbers_at.result + n) c.args.note.link) c.push.new.bytes)) e
    (note-more p.head p.block.now p.sound c.args.of n c.args.note.link (id_of c.args.note.id) c.args.note.round.0 _ c.note_rows-rows.result c.push.new.bytes c.requires.link
    (ap (λ (a : ℕ). a + n) (rw c.view-view.ensures.head at c.numbers_at.ensures.place)) (c.note_rows-rows.ensures.span ∙ ap (λ (h : Head). span (limits_of h.limits) (suc (numbers_of c.args.of))) c.view-view.ensures.head) c.push.auto.bytes c.count-n.ensures c.requires.room (cc (c.push.ensures, c.row.ensures)))

pub invariant_of-self-clause-sound : goal.invariant_of-self-clause-sound
invariant_of-self-clause-sound c = (goes (goal.at.invariant_of-self-clause-sound c).After-push Queue c.in-Queue.is).sound

pub returns-in-Queue : goal.returns-in-Queue
returns-in-Queue c = record { state = (goes (goal.at.returns-in-Queue c).After-push Queue c.in-Queue.is).state; loan = refl }

pub invariant_of-self-in-Record-clause-sound : goal.invariant_of-self-in-Record-clause-sound
invariant_of-self-in-Record-clause-sound c = (goes (goal.at.invariant_of-self-in-Record-clause-sound c).After-push Record c.in-Record.is).sound

pub returns-in-Record : goal.returns-in-Record
returns-in-Record c = record { state = (goes (goal.at.returns-in-Record c).After-push Record c.in-Record.is).state; loan = refl }
