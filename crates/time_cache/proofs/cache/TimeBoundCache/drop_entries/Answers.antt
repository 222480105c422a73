-- `drop_entries`: `drop_places` in the entries, lent.
use Rattle.std.proofs.Common.{◌≡◌, ap, ◌∙◌, ℕ, ◌+◌, ◌-◌, ◌*◌, ◌≤◌, length, arith}
use Rattle.storage.specs.Rows.Part.{part}
use Rattle.storage.proofs.RowsLaws.Parts.{length_part}
use Rattle.storage.proofs.RowsLaws.Rows.{mul-up}
use Rattle.storage.specs.Refs.Refs.{left}
use Rattle.time_cache.proofs.LoanLaws.{refs-lent, refs-back, size_of, only-back}
use Rattle.time_cache.proofs.cache.TimeBoundCache.drop_entries.Goals as goal
use Rattle.time_cache.proofs.cache.TimeBoundCache.drop_entries.Goals.{Start}

-- the size of what is lent
lent : (s : Start) → let c = s.args.self in let k = c.entries.len * c.entries.stride in
    (c.entries.at + k ≤ length s.args.block.now) × (length (part c.entries.at (c.entries.at + k - c.entries.at) s.args.block.now) ≡ k)
lent s =
    let c = s.args.self in
    let k = c.entries.len * c.entries.stride in
    let w : c.entries.at + k ≤ length s.args.block.now = omega (arith, s.requires.apart, s.requires.within) in
    (w, ap (λ (j : ℕ). length (part c.entries.at j s.args.block.now)) (size_of c.entries.at k) ∙ length_part c.entries.at k s.args.block.now w)

pub returns : goal.returns
unfolding part
returns c =
    let k = c.args.self in
    let xs = c.args.block.now in
    let a = k.entries.at in
    let w = k.entries.stride in
    let n = k.entries.len in
    let z = n * w in
    let zs = c.drop_places.new.bytes in
    let lz : length zs ≡ z = c.drop_places.auto.bytes ∙ (lent (goal.at.returns c).Start).1 in
    let q = c.drop_places.result in
    record {
      count = c.drop_places.ensures.0;
      refs = refs-back w q a (a + z - a) zs xs (omega (arith, lz, mul-up w q n c.drop_places.ensures.0)) (omega (arith, (lent (goal.at.returns c).Start).0))
          ∙ c.drop_places.ensures.1
          ∙ ap (left c.args.k) (refs-lent w n a (a + z - a) xs (omega (arith, size_of a z)));
      only = only-back a z (a + z - a) zs xs (size_of a z) lz (lent (goal.at.returns c).Start).0;
    }
