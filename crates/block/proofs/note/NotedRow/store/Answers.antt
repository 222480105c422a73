-- `store`: the identifier, and behind it the round.
use Rattle.block.proofs.Words.{◌≡◌, ap, ◌∙◌, List, ℕ, arith, length, part, put, le_nat, le_bytes, be_nat, be_bytes, id_of, part-before, part-put, length-put, length-be_bytes, be_nat-be_bytes, length-le_bytes, le_nat-le_bytes, id-lt}
use Rattle.block.specs.Rows.{noted}
use Rattle.block.specs.View.{id_at, half_at}
use Rattle.block.proofs.note.NotedRow.store.Goals as goal

pub returns : goal.returns
unfolding id_at half_at
returns c =
    let n = c.args.self in
    let id : ℕ = id_of n.id in
    let r : ℕ = n.round.0 in
    let xs : List ℕ = c.args.row.now in
    let ys : List ℕ = c.store_id.new.b in
    let li : length (be_bytes 32 id) ≡ 32 = length-be_bytes 32 id in
    let lr : length (le_bytes 2 r) ≡ 2 = length-le_bytes 2 r in
    let ly : length ys ≡ 34 = ap length c.store_id.ensures ∙ length-put 0 (be_bytes 32 id) xs (omega (arith, c.requires)) ∙ c.requires in
    let lt = id-lt n.id.w0 n.id.w1 n.id.w2 n.id.w3 (omega (arith, c.well_formed)) (omega (arith, c.well_formed)) (omega (arith, c.well_formed)) (omega (arith, c.well_formed)) in
    let a : be_nat (part 0 32 (put 32 (le_bytes 2 r) ys)) ≡ id =
    ap be_nat (part-before 0 32 32 (le_bytes 2 r) ys (omega arith) (omega arith) ∙ ap (part 0 32) c.store_id.ensures ∙ part-put 0 32 (be_bytes 32 id) xs li (omega (arith, c.requires)))
    ∙ be_nat-be_bytes 32 id lt in
    let b : le_nat (part 32 2 (put 32 (le_bytes 2 r) ys)) ≡ r = ap le_nat (part-put 32 2 (le_bytes 2 r) ys lr (omega arith)) ∙ le_nat-le_bytes 2 r (omega (arith, c.well_formed)) in
    (λ k. noted (be_nat (part 0 32 (c.store_le.ensures k))) (le_nat (part 32 2 (c.store_le.ensures k)))) ∙ (λ k. noted (a k) (b k))
