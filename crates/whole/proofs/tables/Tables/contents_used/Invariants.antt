-- The sum over the first entries, at most 2^32 for each.
use Rattle.whole.proofs.Words.{◌≡◌, ◌*◌, ◌≤◌, take, sum, rows, refs, places}
use Rattle.whole.specs.Parts.{table_of, length_at}
use Rattle.whole.proofs.tables.Tables.contents_used.Given as goal

abbrev pub invariant-loop-entry : goal.invariant-loop-entry
invariant-loop-entry l =
    let h = l.self.head.now in
    let xs = l.self.block.now in
    (l.entry ≤ h.live.cached) × (l.total ≤ 4294967296 * l.entry) × (l.total ≡ sum (length_at (rows 48 h.live.cached_rows (table_of h 5 xs))) (take l.entry (places (refs 4 h.live.cached (table_of h 4 xs)))))
