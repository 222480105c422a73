-- `names_ascend`: the first i places name rows, and the keys of these ascend (`Seen`); `last` is the last of the places, and `first_word` the first word of its key.
use Rattle.std.proofs.Common.{◌≡◌, ◌-◌, ◌/◌, ◌^◌, ◌<◌, get_or}
use Rattle.storage.specs.Refs.Refs.{refs, places}
use Rattle.time_cache.specs.Tables.{row_at, expiry_rows}
use Rattle.time_cache.proofs.NamedLaws.{Seen}
use Rattle.time_cache.proofs.named.names_ascend.Given as goal

abbrev pub invariant-loop-i : goal.invariant-loop-i
invariant-loop-i l =
    (l.last < l.expiry.len)
    × (l.last ≡ get_or (places (refs l.places.stride l.places.len l.places.bytes.now)) (l.i - 1) 0)
    × (l.first_word ≡ (row_at (expiry_rows l.expiry.stride l.expiry.len l.expiry.bytes.now) l.last).key / 2 ^ 192)
    × Seen l.places.stride l.places.len l.places.bytes.now l.expiry.stride l.expiry.len l.expiry.bytes.now l.i
