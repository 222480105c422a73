use Rattle.block.specs.declared.note.NoteTable.TheVariants.{Queue}
use Rattle.block.proofs.NoteRowLaws.{note-column}
use Rattle.block.proofs.panel.View.queue_links.Goals as goal

pub returns : goal.returns
returns c = let v = c.args.self.now in note-column v.head.now v.block.now v.sound Queue _ c.start-at.ensures
