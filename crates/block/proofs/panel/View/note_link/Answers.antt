-- The byte read is the link number.
use Rattle.std.proofs.Common.{sym, ap, subst, ℕ, ◌+◌, get_or, arith}
use Rattle.block.specs.NoteSteps.{LinkIs, notes_of}
use Rattle.block.specs.Views.{shown}
use Rattle.block.proofs.NoteLaws.{note-link, count-notes}
use Rattle.block.proofs.panel.View.note_link.Goals as goal

pub overflow_add-result : goal.overflow_add-result
overflow_add-result c = let v = c.args.self.now in omega (arith, c.requires, count-notes v.head.now v.block.now v.sound c.args.of, c.numbers_at.ensures.room, v.sound.fit.ceilings)

pub bounds-self-numbers_at : goal.bounds-self-numbers_at
bounds-self-numbers_at c = let v = c.args.self.now in omega (arith, c.requires, count-notes v.head.now v.block.now v.sound c.args.of, c.numbers_at.ensures.room, v.sound.fit.long)

pub returns : goal.returns
returns c =
    let v = c.args.self.now in
    subst (λ (r : ℕ). LinkIs (shown v) (notes_of c.args.of (shown v)) c.args.row r)
    (sym (ap (λ (n : ℕ). get_or v.block.now (n + c.args.row) 0) c.numbers_at.ensures.place))
    (note-link v.head.now v.block.now v.sound c.args.of c.args.row c.requires)
