-- `store`: the start, and behind it the length.
use Rattle.block.proofs.Words.{◌≡◌, ap, ◌∙◌, List, ℕ, arith, length, part, put, le_nat, le_bytes, part-before, part-put, length-put, length-le_bytes, le_nat-le_bytes}
use Rattle.block.specs.View.{four_at}
use Rattle.block.proofs.caches.contents.ExtentRow.store.Goals as goal

pub returns : goal.returns
unfolding four_at
returns c =
    let e = c.args.self in
    let xs : List ℕ = c.args.bytes.now in
    let ys : List ℕ = c.store_le.new.bytes in
    let ly : length ys ≡ 8 = ap length c.store_le.ensures ∙ length-put 0 (le_bytes 4 e.start) xs (omega (arith, c.requires, length-le_bytes 4 e.start)) ∙ c.requires in
    let a : le_nat (part 0 4 (put 4 (le_bytes 4 e.len) ys)) ≡ e.start =
    ap le_nat (part-before 0 4 4 (le_bytes 4 e.len) ys (omega arith) (omega arith) ∙ ap (part 0 4) c.store_le.ensures ∙ part-put 0 4 (le_bytes 4 e.start) xs (length-le_bytes 4 e.start) (omega (arith, c.requires)))
    ∙ le_nat-le_bytes 4 e.start (omega (arith, c.well_formed)) in
    let b : le_nat (part 4 4 (put 4 (le_bytes 4 e.len) ys)) ≡ e.len = ap le_nat (part-put 4 4 (le_bytes 4 e.len) ys (length-le_bytes 4 e.len) (omega arith)) ∙ le_nat-le_bytes 4 e.len (omega (arith, c.well_formed)) in
    λ k. ((ap (λ (z : List ℕ). le_nat (part 0 4 z)) c.store_le-2.ensures ∙ a) k, (ap (λ (z : List ℕ). le_nat (part 4 4 z)) c.store_le-2.ensures ∙ b) k)
