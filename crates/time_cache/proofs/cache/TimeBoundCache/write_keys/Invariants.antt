use Rattle.time_cache.specs.Gone.{key_of_row}
use Rattle.time_cache.proofs.ToldLaws.{Written}
use Rattle.time_cache.proofs.cache.TimeBoundCache.write_keys.Given as goal

-- the keys of the rows before this one are written
abbrev pub invariant-loop-i : goal.invariant-loop-i
invariant-loop-i l = Written (key_of_row l.self l.block) l.row-items l.initial.gone l.gone l.i
