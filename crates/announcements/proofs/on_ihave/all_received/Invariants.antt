-- `all_received`: the entries that are left decide.
use Rattle.announcements.proofs.Words.{ihaves_value, settled, shown}
use Rattle.announcements.specs.Ihaves.Entries.{is_received}
use Rattle.announcements.proofs.IhavesLaws.ReceivedLaws.{Rest}
use Rattle.announcements.proofs.IhavesLaws.WalkLaws.{Walk}
use Rattle.announcements.proofs.on_ihave.all_received.Given as goal

abbrev pub invariant-loop-ihave : goal.invariant-loop-ihave
invariant-loop-ihave l = Walk (Rest (is_received (settled l.call.instant.0 (shown l.view))) (ihaves_value l.fn.ihaves)) (ihaves_value l.fn.ihaves) (ihaves_value l.ihave-iterator)
