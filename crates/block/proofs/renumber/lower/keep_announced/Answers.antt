-- `lower::keep_announced`: the rows before the first that goes, and those that are retained behind it, with their lists.
use Rattle.block.proofs.Words.{◌≡◌, ap, ◌∙◌, List, ◌++◌, ℕ, ◌+◌, ◌-◌, ◌*◌, length, take, drop, take_all, arith, filter, differs, rows, loan-put}
use Rattle.std.proofs.Common.{length-drop}
use Rattle.block.proofs.NeighboursLaws.LoweredRows.{kept-announced}
use Rattle.block.proofs.NeighboursLaws.LoweredRuns.{rows-kept}
use Rattle.block.proofs.renumber.lower.keep_announced.Goals as goal

pub returns : goal.returns
returns c =
    let a = c.args in
    let xs = a.bytes.now in
    let first = c.first_unannounced-first in
    let k = first.result * 129 in
    let zs = c.retain.new.bytes in
    let r = c.retain.result in
    let w : take (length xs - k) (drop k xs) ≡ drop k xs = take_all (length xs - k) (drop k xs) (omega (arith, length-drop k xs)) in
    let lz : length zs ≡ length xs - k = c.retain.auto.bytes ∙ ap length w ∙ length-drop k xs in
    let left : rows 129 r zs ≡ filter (differs 32 0) (rows 129 (a.n - first.result) (drop k xs)) = c.retain.ensures.1 ∙ ap (λ (b : List ℕ). filter (differs 32 0) (rows 129 (a.n - first.result) b)) w in (
      omega (arith, c.retain.ensures.0, first.ensures.within),
      kept-announced a.n (first.result + r) xs (take k xs ++ (zs ++ drop (length xs - k) (drop k xs)))
          (ap (rows 129 (first.result + r)) (loan-put k (length xs - k) zs xs lz) ∙ rows-kept a.n first.result r xs zs first.ensures.within c.requires first.ensures.before lz left),
    )
