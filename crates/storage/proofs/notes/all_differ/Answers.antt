-- `all_differ`: a neighbour that is the same tells, since the list is in order.
use Rattle.std.proofs.Common.{sym, eqb-true, arith}
use Rattle.storage.proofs.NotesLaws.Orders.{same-not, none-same}
use Rattle.storage.proofs.notes.all_differ.Goals as goal

pub returns-then-eq : goal.returns-then-eq
returns-then-eq c =
    same-not c.args.ids.now c.sort_unstable.new.self c.loop-i.i _ c.sort_unstable.ensures.permutation (omega arith) c.loop-i-test.true (eqb-true _ _ (sym c.if-eq.ensures))

pub returns : goal.returns
returns c = none-same c.args.ids.now c.sort_unstable.new.self c.loop-i.i c.sort_unstable.ensures.permutation c.sort_unstable.ensures.sorted c.loop-i.invariant c.loop-i-test.false
