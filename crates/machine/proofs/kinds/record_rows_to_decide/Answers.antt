-- `record_rows_to_decide`: a first event leaves the record.
use Rattle.machine.proofs.Words.{◌∙◌, sym, shown}
use Rattle.announcements.proofs.CachedRowsLaws.{rows-then}
use Rattle.machine.proofs.kinds.record_rows_to_decide.Goals as goal

pub returns-then-rows-eq0 : goal.returns-then-rows-eq0
returns-then-rows-eq0 c call = rows-then call.instant.0 (shown c.args.view.now) ∙ sym c.record_len-rows.ensures.long ∙ c.if-rows-eq0.true
