-- `store`: the identifier, and behind it the list.
use Rattle.block.proofs.Words.{◌≡◌, sym, ap, ◌∙◌, ℕ, List, arith, length, drop, part, put, be_nat, be_bytes, id_of, part-before, part-put, put-drop, put_all, length-put, length-be_bytes, be_nat-be_bytes, id-lt}
use Rattle.std.proofs.Common.{length-drop}
use Rattle.block.specs.Rows.{missed}
use Rattle.block.specs.View.{id_at}
use Rattle.block.proofs.missing.MissedRow.store.Goals as goal

pub returns : goal.returns
unfolding id_at
returns c =
    let id : ℕ = id_of c.args.self.id in
    let list : List ℕ = c.args.self.announcers.0 in
    let xs : List ℕ = c.args.row.now in
    let ys : List ℕ = c.store_id.new.b in
    let li : length (be_bytes 32 id) ≡ 32 = length-be_bytes 32 id in
    let ly : length ys ≡ 129 = ap length c.store_id.ensures ∙ length-put 0 (be_bytes 32 id) xs (omega (arith, c.requires)) ∙ c.requires in
    let ll : length list ≡ 97 = omega (arith, c.well_formed) in
    let lt = id-lt c.args.self.id.w0 c.args.self.id.w1 c.args.self.id.w2 c.args.self.id.w3 (omega (arith, c.well_formed)) (omega (arith, c.well_formed)) (omega (arith, c.well_formed)) (omega (arith, c.well_formed)) in
    let a : be_nat (part 0 32 (put 32 list ys)) ≡ id =
    ap be_nat (part-before 0 32 32 list ys (omega arith) (omega arith) ∙ ap (part 0 32) c.store_id.ensures ∙ part-put 0 32 (be_bytes 32 id) xs li (omega (arith, c.requires)))
    ∙ be_nat-be_bytes 32 id lt in
    let b : drop 32 (put 32 list ys) ≡ list = put-drop 32 0 list ys (omega arith) ∙ put_all list (drop 32 ys) (ll ∙ sym (length-drop 32 ys ∙ (omega arith))) in
    (λ k. missed (be_nat (part 0 32 (c.copy_bytes.ensures k))) (drop 32 (c.copy_bytes.ensures k))) ∙ (λ k. missed (a k) (b k))
