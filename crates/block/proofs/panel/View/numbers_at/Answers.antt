-- `numbers_at`: in each case the table's place.
use Rattle.std.proofs.Common.{rules}
use Rattle.block.proofs.panel.View.numbers_at.Goals as goal

pub returns-in-Queue : goal.returns-in-Queue
returns-in-Queue c = rw c.in-Queue.is (search rules)

pub returns-in-Record : goal.returns-in-Record
returns-in-Record c = rw c.in-Record.is (search rules)
