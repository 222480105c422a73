-- `drop_rows`: `drop_expiry` in the expiry rows, lent.
use Rattle.std.proofs.Common.{◌≡◌, ap, ◌∙◌, ℕ, ◌+◌, ◌-◌, ◌*◌, ◌≤◌, length, drop, arith}
use Rattle.storage.specs.Rows.Part.{part}
use Rattle.storage.proofs.RowsLaws.Parts.{length_part}
use Rattle.storage.proofs.RowsLaws.Rows.{mul-up}
use Rattle.time_cache.proofs.LoanLaws.{expiry-lent, expiry-back, size_of, only-back}
use Rattle.time_cache.proofs.cache.TimeBoundCache.drop_rows.Goals as goal
use Rattle.time_cache.proofs.cache.TimeBoundCache.drop_rows.Goals.{Start}

-- the size of what is lent
lent : (s : Start) → let c = s.args.self in let k = c.expiry.len * c.expiry.stride in
    (c.expiry.at + k ≤ length s.args.block.now) × (length (part c.expiry.at (c.expiry.at + k - c.expiry.at) s.args.block.now) ≡ k)
lent s =
    let c = s.args.self in
    let k = c.expiry.len * c.expiry.stride in
    let w : c.expiry.at + k ≤ length s.args.block.now = s.requires.0.within in
    (w, ap (λ (j : ℕ). length (part c.expiry.at j s.args.block.now)) (size_of c.expiry.at k) ∙ length_part c.expiry.at k s.args.block.now w)

pub returns : goal.returns
unfolding part
returns c =
    let k = c.args.self in
    let xs = c.args.block.now in
    let b = k.expiry.at in
    let t = k.expiry.stride in
    let m = k.expiry.len in
    let z = m * t in
    let zs = c.drop_expiry.new.bytes in
    let lz : length zs ≡ z = c.drop_expiry.auto.bytes ∙ (lent (goal.at.returns c).Start).1 in
    record {
      rows = expiry-back t (m - c.args.k) b (b + z - b) zs xs (omega (arith, lz, mul-up t (m - c.args.k) m (omega arith))) (omega (arith, (lent (goal.at.returns c).Start).0))
          ∙ c.drop_expiry.ensures
          ∙ ap (drop c.args.k) (expiry-lent t m b (b + z - b) xs (omega (arith, size_of b z)));
      only = only-back b z (b + z - b) zs xs (size_of b z) lz (lent (goal.at.returns c).Start).0;
    }
