-- `store`: the peer, and behind it the mark.
use Rattle.block.proofs.Words.{◌≡◌, ap, ◌∙◌, List, [], ◌∷◌, ℕ, arith, length, get_or, set, get_or-set_same, part, le_nat, le_bytes, set-put, part-before, part-put, length-put, length-le_bytes, le_nat-le_bytes, entry}
use Rattle.storage.specs.Rows.Rows.{field_of}
use Rattle.block.specs.View.{link_of, mark_of}
use Rattle.block.proofs.links.LinkRow.store.Goals as goal

pub returns : goal.returns
unfolding link_of field_of
returns c =
    let p : ℕ = c.args.self.peer in
    let xs : List ℕ = c.args.row.now in
    let ys : List ℕ = c.store.new.bytes in
    let m : ℕ = c.byte.result in
    let ly : length ys ≡ 16 = ap length c.store.ensures ∙ length-put 0 (le_bytes 8 p) xs (omega (arith, c.requires, length-le_bytes 8 p)) ∙ c.requires in
    let a : le_nat (part 0 8 (set ys 8 m)) ≡ p =
    ap (λ (l : List ℕ). le_nat (part 0 8 l)) (set-put 8 m ys (omega arith))
    ∙ ap le_nat (part-before 0 8 8 (m ∷ []) ys (omega arith) (omega arith) ∙ ap (part 0 8) c.store.ensures ∙ part-put 0 8 (le_bytes 8 p) xs (length-le_bytes 8 p) (omega (arith, c.requires)))
    ∙ le_nat-le_bytes 8 p (omega (arith, c.well_formed)) in
    let b : mark_of (get_or (set ys 8 m) 8 0) ≡ mark_of m = ap mark_of (get_or-set_same ys 8 m 0 (omega arith)) in
    λ k. entry (a k) ((b ∙ c.byte.ensures) k)
