use Rattle.time_cache.specs.Gone.{NamesRows}
use Rattle.time_cache.proofs.cache.TimeBoundCache.name_rows.Given as goal

-- the places have entries before this one
abbrev pub invariant-loop-entry : goal.invariant-loop-entry
invariant-loop-entry l = NamesRows l.self l.block l.names
