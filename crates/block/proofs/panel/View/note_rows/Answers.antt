-- `note_rows`: in each case from the table's place to the next one's.
use Rattle.std.proofs.Common.{rules}
use Rattle.block.proofs.panel.View.note_rows.Goals as goal

pub returns-in-Queue : goal.returns-in-Queue
returns-in-Queue c = rw c.in-Queue.is (search rules)

pub returns-in-Record : goal.returns-in-Record
returns-in-Record c = rw c.in-Record.is (search rules)
