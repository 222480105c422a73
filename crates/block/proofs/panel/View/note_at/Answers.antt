-- The row read is the note, beside its link number.
use Rattle.std.proofs.Common.{arith, length-take-le, length-drop, ◌-◌, drop}
use Rattle.block.specs.Rows.{noted}
use Rattle.block.proofs.NoteLaws.{note-is, count-notes}
use Rattle.block.proofs.panel.View.note_at.Goals as goal

pub load-requires : goal.load-requires
load-requires c =
    let v = c.args.self.now in
    let r = c.note_rows.result in (
      omega (arith, c.requires, count-notes v.head.now v.block.now v.sound c.args.of, c.count-n.ensures),
      omega (arith, c.count-n.ensures, c.note_rows.ensures, v.sound.fit.long, length-take-le (r.end - r.start) (drop r.start v.block.now), length-drop r.start v.block.now),
    )

pub returns : goal.returns
returns c =
    let v = c.args.self.now in
    note-is v.head.now v.block.now v.sound c.args.of c.args.row c.requires c.note_rows.result _ c.note_rows.ensures.span c.note_link-link.ensures (cc (c.count-n.ensures, c.load.ensures (noted 0 0)))
