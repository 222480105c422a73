-- `evict_sizes` meets its contract: what is later stays.
use Rattle.steps.proofs.Words.{◌∙◌, shown}
use Rattle.steps.proofs.EvictStepLaws.{evict-then}
use Rattle.steps.proofs.on_evict_cache_timer.evict_sizes.Goals as goal

pub returns : goal.returns
returns c = c.later_sizes.ensures ∙ evict-then c.args.call.now.instant.0 (shown c.args.view.now) c.requires
