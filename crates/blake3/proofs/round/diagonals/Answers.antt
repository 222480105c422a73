-- `diagonals`: each stands in a column (`diagonals-stand`), and G is of its sums.
use Rattle.std.proofs.Common.{◌+◌, ◌%◌, [], ◌∷◌, slice_index, slice_index_or, ap, ◌∙◌, arith}
use Rattle.blake3.specs.Blake3.{quarter, sum}
use Rattle.blake3.specs.Lanes.{lane_at}
use Rattle.blake3.proofs.Rounds.{diagonals-stand}
use Rattle.blake3.proofs.round.diagonals.Goals as goal

pub returns : goal.returns
returns c j l =
    let x = slice_index c.args.x j in
    let y = slice_index c.args.y j in
    let a = lane_at c.args.v 0 j in
    let row = slice_index_or c.args.v in
    let stands = diagonals-stand (c.add-first.result ∷ row 1 [] ∷ row 2 [] ∷ row 3 [] ∷ []) c.diagonalize.result c.diagonalize.ensures j l in
    let first = c.add-first.ensures j l in
    c.undiagonalize.ensures j l
    ∙ c.g_of_sums-u.ensures ((j + 1) % 4) a x y (omega arith) ((λ i. (stands i).a) ∙ first)
    (c.moved.ensures j l ∙ c.add-both.ensures j l ∙ ap (λ n. sum n y) first)
    ∙ (λ i. quarter x y (record { a = a; b = (stands i).b; c = (stands i).c; d = (stands i).d }))
