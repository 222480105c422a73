use Rattle.std.proofs.Common.{sym}
use Rattle.time_cache.specs.Tables.{cache_at}
use Rattle.time_cache.proofs.PassedLaws.{is-due}
use Rattle.time_cache.proofs.cache.TimeBoundCache.is_due.Goals as goal

pub returns : goal.returns
returns c = sym (is-due (cache_at c.args.self c.args.block.now).expiry c.args.instant.0 c.due.result c.due.ensures)
