-- `find`: lo and hi bracket the key; the key that the middle names settles one side. The measure is hi - lo.
use Rattle.std.proofs.Common.{◌-◌}
use Rattle.storage.specs.Rows.Ident.{id_of}
use Rattle.storage.proofs.RowsLaws.Sorted.{Bracket}
use Rattle.time_cache.proofs.NamedLaws.{keys_in}
use Rattle.time_cache.proofs.named.find.Given as goal

abbrev pub invariant-loop-lo : goal.invariant-loop-lo
invariant-loop-lo l = Bracket (keys_in l.places.stride l.places.len l.places.bytes.now l.expiry.stride l.expiry.len l.expiry.bytes.now) (id_of l.key) l.lo l.hi

abbrev pub decreases-loop-lo : goal.decreases-loop-lo
decreases-loop-lo l = l.hi - l.lo
