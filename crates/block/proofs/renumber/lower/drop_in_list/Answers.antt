-- `lower::drop_in_list`: the numbers alone where i is not among them; else the numbers and rounds after the count, then the count.
use Rattle.block.proofs.Words.{◌≡◌, sym, ap, ◌∙◌, subst, List, ◌++◌, ℕ, ◌-◌, length, take, drop, set, take_all, arith, lower_all, entries}
use Rattle.std.proofs.Common.{length-drop}
use Rattle.block.specs.Neighbours.Lowered.{listed_of, lower_listed}
use Rattle.block.specs.Neighbours.Lowered.{NoneFrom}
use Rattle.block.proofs.NeighboursLaws.LoweredRows.{list-after, list-lowered}
use Rattle.block.proofs.NeighboursLaws.LoweredRuns.{list-kept}
use Rattle.block.proofs.renumber.lower.drop_in_list.Goals as goal

pub returns-then-run_end-end : goal.returns-then-run_end-end
returns-then-run_end-end c =
    let n = c.count-n in
    let list = c.args.list.now in
    let i = c.args.i in
    ap (listed_of 0) c.lower_numbers.ensures
    ∙ list-kept i n.result list c.requires.0 n.ensures.0 (omega (arith, n.ensures.0, c.requires.1)) (subst (λ (k : ℕ). NoneFrom i 1 k list) c.if-run_end-end.true c.run_end.ensures.others)

pub returns : goal.returns
returns c =
    let n = c.count-n in
    let list = c.args.list.now in
    let i = c.args.i in
    let zs = c.drop_number-left.new.bytes in
    let r = c.drop_number-left.result in
    let k : length list - 1 ≡ 96 = omega (arith, c.requires.0) in
    let w : take (length list - 1) (drop 1 list) ≡ drop 1 list = take_all (length list - 1) (drop 1 list) (omega (arith, length-drop 1 list)) in
    let lz : length zs ≡ 96 = c.drop_number-left.auto.bytes ∙ ap length w ∙ length-drop 1 list ∙ k in
    subst (λ (xs : List ℕ). listed_of 0 xs ≡ lower_listed i (listed_of 0 list))
    (sym (ap (λ (m : ℕ). set (take 1 list ++ (zs ++ drop m (drop 1 list))) 0 r) k ∙ list-after r list zs c.requires.0 lz))
    (list-lowered i n.result r list zs c.requires.0 n.ensures.0 (omega (arith, n.ensures.0, c.requires.1)) c.drop_number-left.ensures.0 lz
    (c.drop_number-left.ensures.1 ∙ ap (λ (b : List ℕ). lower_all i (entries 32 2 n.result b)) w))
