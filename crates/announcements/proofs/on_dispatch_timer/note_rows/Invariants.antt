-- `note_rows`: the record has taken the rows before this one.
use Rattle.block.specs.Panels.{Goes}
use Rattle.announcements.proofs.OnDispatchLaws.StateLaws.{noted_first}
use Rattle.announcements.proofs.on_dispatch_timer.note_rows.Given as goal

abbrev pub invariant-loop-row : goal.invariant-loop-row
invariant-loop-row l = Goes (noted_first l.rows l.row-index) l.fn.panel l.panel
