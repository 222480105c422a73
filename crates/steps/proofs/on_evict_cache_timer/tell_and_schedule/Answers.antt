-- `tell_and_schedule`: what is told, and the schedule behind it.
use Rattle.block.specs.Views.{shown}
use Rattle.steps.proofs.ForgottenLaws.{told-then}
use Rattle.steps.proofs.on_evict_cache_timer.tell_and_schedule.Goals as goal

pub returns : goal.returns
returns g c = told-then c.args.call.now.instant.0 (shown c.args.view.now) _ _ _ c.tell_forgotten.ensures c.schedule_evict_cache.ensures
