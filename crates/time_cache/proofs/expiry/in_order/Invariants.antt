-- `in_order`: the first i times rise, and the last of them is `last`.
use Rattle.std.proofs.Common.{map}
use Rattle.time_cache.specs.Tables.{expiry_rows, expiry_of}
use Rattle.time_cache.proofs.ExpiryLaws.{RisingTo}
use Rattle.time_cache.proofs.expiry.in_order.Given as goal

abbrev pub invariant-loop-i : goal.invariant-loop-i
invariant-loop-i l = RisingTo (map expiry_of (expiry_rows l.stride l.row_count l.bytes)) l.last l.i
