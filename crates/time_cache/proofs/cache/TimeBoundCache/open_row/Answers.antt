-- `open_row`: `add_expiry` in the expiry rows, lent with room for one more.
use Rattle.std.proofs.Common.{◌≡◌, ap, ◌∙◌, List, ◌∷◌, ◌++◌, ℕ, ◌+◌, ◌-◌, ◌*◌, ◌≤◌, length, take, drop, arith}
use Rattle.storage.specs.Rows.Part.{part}
use Rattle.storage.specs.Rows.Ident.{id_of}
use Rattle.storage.proofs.RowsLaws.Parts.{length_part}
use Rattle.storage.proofs.RowsLaws.Rows.{mul-more}
use Rattle.time_cache.specs.Tables.{ExpiryRow, expiry_row, expiry_rows}
use Rattle.time_cache.proofs.LoanLaws.{expiry-lent, expiry-back, size_of, only-back}
use Rattle.time_cache.proofs.cache.TimeBoundCache.open_row.Goals as goal
use Rattle.time_cache.proofs.cache.TimeBoundCache.open_row.Goals.{Start}

-- the size of what is lent
lent : (s : Start) → let c = s.args.self in let k = (c.expiry.len + 1) * c.expiry.stride in
    (c.expiry.at + k ≤ length s.args.block.now) × (length (part c.expiry.at (c.expiry.at + k - c.expiry.at) s.args.block.now) ≡ k) × (c.expiry.len * c.expiry.stride ≤ k)
lent s =
    let c = s.args.self in
    let k = (c.expiry.len + 1) * c.expiry.stride in
    let e : c.expiry.at + k - c.expiry.at ≡ k = size_of c.expiry.at k in
    let w : c.expiry.at + k ≤ length s.args.block.now = s.requires.0.within in (
      w,
      ap (λ (j : ℕ). length (part c.expiry.at j s.args.block.now)) e ∙ length_part c.expiry.at k s.args.block.now w,
      omega (arith, mul-more c.expiry.stride c.expiry.len),
    )

pub returns : goal.returns
unfolding part
returns c =
    let k = c.args.self in
    let xs = c.args.block.now in
    let b = k.expiry.at in
    let t = k.expiry.stride in
    let m = k.expiry.len in
    let z = (m + 1) * t in
    let i = c.args.i in
    let zs = c.add_expiry.new.bytes in
    let lz : length zs ≡ z = c.add_expiry.auto.bytes ∙ (lent (goal.at.returns c).Start).1 in
    let rest : List ℕ = part (i * t + 40) (t - 40) (part b (b + z - b) xs) in
    let was : expiry_rows t m (part b (b + z - b) xs) ≡ expiry_rows t m (drop b xs) = expiry-lent t m b (b + z - b) xs (omega (arith, size_of b z, (lent (goal.at.returns c).Start).2)) in
    record {
      rest = rest;
      rows = expiry-back t (m + 1) b (b + z - b) zs xs (omega (arith, lz)) (omega (arith, (lent (goal.at.returns c).Start).0))
          ∙ c.add_expiry.ensures
          ∙ ap (λ (rs : List ExpiryRow). take i rs ++ (expiry_row c.args.expires.0 (id_of c.args.key) rest ∷ drop i rs)) was;
      only = only-back b z (b + z - b) zs xs (size_of b z) lz (lent (goal.at.returns c).Start).0;
    }
