-- The store is a put in the list.
use Rattle.block.proofs.Words.{◌≡◌, ◌+◌, ◌*◌, ap, ◌∙◌, ℕ, arith, put, le_bytes, put-inside, length-le_bytes}
use Rattle.block.proofs.hops.set_round.Goals as goal

pub returns : goal.returns
returns c =
    let a = c.args in
    let e : a.at + 33 + 2 * a.j ≡ a.at + (33 + 2 * a.j) = omega arith in
    c.store_le.ensures ∙ ap (λ (n : ℕ). put n (le_bytes 2 a.round.0) a.block.now) e
    ∙ put-inside a.at (33 + 2 * a.j) 97 (le_bytes 2 a.round.0) a.block.now (omega (arith, length-le_bytes 2 a.round.0, c.requires.0)) c.requires.1
