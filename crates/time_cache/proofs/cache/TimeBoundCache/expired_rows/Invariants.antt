use Rattle.time_cache.specs.Gone.{Passed}
use Rattle.time_cache.proofs.cache.TimeBoundCache.expired_rows.Given as goal

-- the rows before this one have passed
abbrev pub invariant-loop-row : goal.invariant-loop-row
invariant-loop-row g l = Passed l.self l.block l.gone l.told.items l.row
