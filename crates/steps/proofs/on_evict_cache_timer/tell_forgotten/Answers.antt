-- `tell_forgotten`: where no row is due, there is nothing to tell.
use Rattle.steps.proofs.Words.{sym, ◌∙◌, shown}
use Rattle.steps.proofs.ForgottenLaws.{told-none}
use Rattle.steps.proofs.on_evict_cache_timer.tell_forgotten.Goals as goal

pub returns-else-is_any_due : goal.returns-else-is_any_due
returns-else-is_any_due g c = told-none c.args.call.now.instant.0 (shown c.args.view.now) _ (sym c.is_any_due.ensures ∙ c.if-is_any_due.false)
