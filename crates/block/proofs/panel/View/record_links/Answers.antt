use Rattle.block.specs.declared.note.NoteTable.TheVariants.{Record}
use Rattle.block.proofs.NoteRowLaws.{note-column}
use Rattle.block.proofs.panel.View.record_links.Goals as goal

pub returns : goal.returns
returns c = let v = c.args.self.now in note-column v.head.now v.block.now v.sound Record _ c.start-at.ensures
