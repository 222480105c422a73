-- `store_le`: the slice is what it was with the first i bytes of the value put at `at`, and `rest` is the value without them.
use Rattle.std.proofs.Common.{◌≡◌, ◌/◌, ◌^◌, length}
use Rattle.storage.specs.Rows.Part.{put}
use Rattle.storage.specs.Rows.Digits.{le_bytes}
use Rattle.storage.proofs.rows.word.store_le.Given as goal

abbrev pub invariant-loop-i : goal.invariant-loop-i
invariant-loop-i l = (l.bytes ≡ put l.at (le_bytes l.i l.value) l.initial.bytes) × (l.rest ≡ l.value / 256 ^ l.i) × (length l.bytes ≡ length l.initial.bytes)
