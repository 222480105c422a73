-- `all_differ`: each identifier up to i is below the next, and the list is an order of what was lent.
use Rattle.storage.proofs.NotesLaws.Orders.{UpTo}
use Rattle.storage.proofs.notes.all_differ.Given as goal

abbrev pub invariant-loop-i : goal.invariant-loop-i
invariant-loop-i l = UpTo l.ids l.i
