-- `contents::shift_starts` meets its contract: the first i rows are done, the others are as they were.
use Rattle.block.proofs.Words.{◌≡◌, length, expiry_rows}
use Rattle.block.proofs.ContentsLaws.RowsAdjoin.{Begun}
use Rattle.block.proofs.caches.contents.shift_starts.Given as goal

abbrev pub invariant-loop-i : goal.invariant-loop-i
invariant-loop-i l = Begun l.shift.up l.shift.down (expiry_rows 48 l.n l.initial.rows) l.i (expiry_rows 48 l.n l.rows) × (length l.rows ≡ length l.initial.rows)
