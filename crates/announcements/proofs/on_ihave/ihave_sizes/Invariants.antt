-- `ihave_sizes`: after i entries the numbers are those of the first i.
use Rattle.announcements.proofs.Words.{◌≡◌, take, shown, settled, sizes_value}
use Rattle.announcements.specs.OnIhave.{entries_value}
use Rattle.announcements.proofs.OnIhaveLaws.{counted}
use Rattle.announcements.proofs.on_ihave.ihave_sizes.Given as goal

abbrev pub invariant-loop-entry : goal.invariant-loop-entry
invariant-loop-entry l = sizes_value l.sizes ≡ counted (settled l.call.instant.0 (shown l.view)) (entries_value (take l.entry-index l.decision.entries.now))
