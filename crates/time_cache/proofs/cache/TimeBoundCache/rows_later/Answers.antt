-- `rows_later`: all rows but those that are due.
use Rattle.std.proofs.Common.{sym, ◌≤◌, arith}
use lib.ListN.{length-map}
use Rattle.time_cache.specs.Tables.{expiry_of, cache_of, rows_at}
use Rattle.time_cache.proofs.ReadLaws.{length-rs, count-rows}
use Rattle.time_cache.proofs.cache.TimeBoundCache.rows_later.Goals as goal
use Rattle.time_cache.proofs.cache.TimeBoundCache.rows_later.Goals.{After-due}

-- no more are due than there are
few : (d : After-due) → d.due.result ≤ d.args.self.expiry.len
unfolding cache_of
few d =
    omega (arith, d.due.ensures.within, length-map (rows_at d.args.self d.args.block.now) expiry_of, length-rs d.args.self d.args.block.now)

pub overflow_sub-result : goal.overflow_sub-result
overflow_sub-result c = omega (arith, few (goal.at.overflow_sub-result c).After-due)

pub returns : goal.returns
returns c =
    sym (count-rows c.args.self c.args.block.now c.requires.1 c.args.instant.0 c.due.result c.due.ensures)
