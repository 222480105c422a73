-- `due`: the cut lies between lo and hi. The measure is hi - lo.
use Rattle.std.proofs.Common.{map, ◌-◌}
use Rattle.time_cache.specs.Tables.{expiry_rows, expiry_of}
use Rattle.time_cache.proofs.ExpiryLaws.{Around}
use Rattle.time_cache.proofs.expiry.due.Given as goal

abbrev pub invariant-loop-lo : goal.invariant-loop-lo
invariant-loop-lo l = Around (map expiry_of (expiry_rows l.stride l.row_count l.bytes)) l.time.0 l.lo l.hi

abbrev pub decreases-loop-lo : goal.decreases-loop-lo
decreases-loop-lo l = l.hi - l.lo
