-- `open_entry`: `insert_row` in the entries, lent with room for one more.
use Rattle.std.proofs.Common.{◌≡◌, ap, ◌∙◌, List, ◌∷◌, ◌++◌, ℕ, ◌+◌, ◌-◌, ◌*◌, ◌≤◌, length, take, drop, arith}
use Rattle.storage.specs.Rows.Part.{part}
use Rattle.storage.proofs.RowsLaws.Parts.{length_part}
use Rattle.storage.proofs.RowsLaws.Rows.{mul-more}
use Rattle.storage.specs.Refs.Refs.{Ref, ref_of, refs}
use Rattle.storage.proofs.RefsLaws.Places.{refs-opened}
use Rattle.time_cache.proofs.LoanLaws.{refs-lent, refs-back, size_of, only-back}
use Rattle.time_cache.proofs.cache.TimeBoundCache.open_entry.Goals as goal
use Rattle.time_cache.proofs.cache.TimeBoundCache.open_entry.Goals.{Start}

-- the size of what is lent
lent : (s : Start) → let c = s.args.self in let k = (c.entries.len + 1) * c.entries.stride in
    (c.entries.at + k ≤ length s.args.block.now) × (length (part c.entries.at (c.entries.at + k - c.entries.at) s.args.block.now) ≡ k) × (c.entries.len * c.entries.stride ≤ k)
lent s =
    let c = s.args.self in
    let k = (c.entries.len + 1) * c.entries.stride in
    let e : c.entries.at + k - c.entries.at ≡ k = size_of c.entries.at k in
    let w : c.entries.at + k ≤ length s.args.block.now = omega (arith, s.requires.0.apart, s.requires.0.within) in (
      w,
      ap (λ (j : ℕ). length (part c.entries.at j s.args.block.now)) e ∙ length_part c.entries.at k s.args.block.now w,
      omega (arith, mul-more c.entries.stride c.entries.len),
    )

pub returns : goal.returns
unfolding part
returns c =
    let k = c.args.self in
    let xs = c.args.block.now in
    let a = k.entries.at in
    let w = k.entries.stride in
    let n = k.entries.len in
    let z = (n + 1) * w in
    let j = c.args.j in
    let zs = c.insert_row.new.bytes in
    let lz : length zs ≡ z = c.insert_row.auto.bytes ∙ (lent (goal.at.returns c).Start).1 in
    let old : List ℕ = part a (a + z - a) xs in
    record {
      gap = ref_of (part (j * w) w old);
      refs = refs-back w (n + 1) a (a + z - a) zs xs (omega (arith, lz)) (omega (arith, (lent (goal.at.returns c).Start).0))
          ∙ ap (refs w (n + 1)) c.insert_row.ensures
          ∙ refs-opened w n j old c.requires.1 (omega (arith, (lent (goal.at.returns c).Start).1))
          ∙ ap (λ (es : List Ref). take j es ++ (ref_of (part (j * w) w old) ∷ drop j es)) (refs-lent w n a (a + z - a) xs (omega (arith, size_of a z, (lent (goal.at.returns c).Start).2)));
      only = only-back a z (a + z - a) zs xs (size_of a z) lz (lent (goal.at.returns c).Start).0;
    }
