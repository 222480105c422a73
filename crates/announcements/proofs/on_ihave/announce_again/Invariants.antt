-- `announce_again`: after i entries those of the first i that were missing have the peer among their announcers.
use Rattle.announcements.proofs.Words.{take, state, Goes}
use Rattle.protocol.specs.Consistent.{Consistent}
use Rattle.announcements.specs.OnIhave.{entries_value}
use Rattle.announcements.proofs.IhavesLaws.StateLaws.{again}
use Rattle.announcements.proofs.on_ihave.announce_again.Given as goal

abbrev pub invariant-loop-entry : goal.invariant-loop-entry
invariant-loop-entry l = record {
  goes : Goes (again l.link (entries_value (take l.entry-index l.decision.entries.now))) l.initial.panel l.panel;
  consistent : Consistent (state l.panel);
}
