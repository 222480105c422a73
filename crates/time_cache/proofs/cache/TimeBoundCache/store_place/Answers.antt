-- `store_place`: the two bytes at the start of the entry's row.
use Rattle.std.proofs.Common.{sym, ap, ◌∙◌, subst, List, [], ℕ, ◌+◌, ◌*◌, ◌≤◌, drop, length-drop, arith}
use Rattle.storage.specs.Rows.Part.{Only}
use Rattle.storage.specs.Rows.Digits.{le_bytes}
use Rattle.storage.proofs.RowsLaws.Parts.{put-drop}
use Rattle.storage.proofs.RowsLaws.Digits.{length-le_bytes}
use Rattle.storage.specs.Refs.Refs.{ref, refs}
use Rattle.storage.proofs.RefsLaws.Places.{store-place}
use Rattle.storage.proofs.RowsLaws.Rows.{row-end}
use Rattle.time_cache.proofs.LoanLaws.{only-put}
use Rattle.time_cache.proofs.cache.TimeBoundCache.store_place.Goals as goal
use Rattle.time_cache.proofs.cache.TimeBoundCache.store_place.Goals.{Start}

-- the row lies in the block
room : (s : Start) → s.args.entry * s.args.self.entries.stride + s.args.self.entries.stride ≤ s.args.self.entries.len * s.args.self.entries.stride
room s = row-end s.args.self.entries.stride s.args.self.entries.len s.args.entry s.requires.1

pub returns : goal.returns
returns c =
    let k = c.args.self in
    let xs = c.args.block.now in
    let a = k.entries.at in
    let w = k.entries.stride in
    let n = k.entries.len in
    let j = c.args.entry in
    let i = c.args.row in
    record {
      refs = ap (λ (ys : List ℕ). refs w n (drop a ys)) c.store_le.ensures
          ∙ ap (refs w n) (put-drop a (j * w) (le_bytes 2 i) xs (omega (arith, c.requires.0)))
          ∙ store-place w n j i (ref 0 []) (drop a xs) c.requires.0.entry_wide c.requires.1 (omega (arith, length-drop a xs, c.requires.0)) c.requires.2;
      only = subst (λ (ys : List ℕ). Only a (n * w) xs ys) (sym c.store_le.ensures) (only-put a (j * w) (n * w) (le_bytes 2 i) xs (omega (arith, length-le_bytes 2 i, room (goal.at.returns c).Start, c.requires.0)) (omega (arith, c.requires.0)));
    }
