-- `decide_ihave`: after i announcements the first i are decided.
use Rattle.announcements.proofs.Words.{take, ihaves_value, settled, shown}
use Rattle.announcements.specs.OnIhave.{IhaveDecided}
use Rattle.announcements.proofs.IhavesLaws.WalkLaws.{Walk}
use Rattle.announcements.proofs.on_ihave.decide_ihave.Given as goal

abbrev pub invariant-loop-ihave : goal.invariant-loop-ihave
invariant-loop-ihave g l = Walk (λ i. IhaveDecided (settled l.call.instant.0 (shown l.view)) (take i (ihaves_value l.fn.ihaves)) l.entries.items l.order.items) (ihaves_value l.fn.ihaves) (ihaves_value l.ihave-iterator)
