-- `missed_list`: the count, then the numbers.
use Rattle.whole.proofs.Words.{◌≡◌, sym, ap, ◌∙◌, true, ◌&&◌, ℕ, ◌+◌, ◌-◌, arith, le-leb, lt-ltb, leb, ltb, take, drop, get_or, once}
use Rattle.whole.specs.Held.{all_below, numbers_name}
use Rattle.whole.specs.Parts.{missed_list}
use Rattle.whole.proofs.NumberLaws.{tells-numbers}
use Rattle.whole.proofs.tables.missed_list.Goals as goal

pub returns-then-n-le-CAPACITY : goal.returns-then-n-le-CAPACITY
unfolding missed_list numbers_name
returns-then-n-le-CAPACITY c =
    let list = c.args.list.now in
    let m = c.args.link_count in
    let ns = take (get_or list 0 0) (drop 1 list) in
    let w = c.wide-n in
    let few : leb (get_or list 0 0) 32 ≡ true = le-leb (get_or list 0 0) 32 (omega arith) in
    let some : ltb 0 (get_or list 0 0) ≡ true = lt-ltb 0 (get_or list 0 0) (omega arith) in
    let size : 1 + w.result - 1 ≡ get_or list 0 0 = omega (arith, w.ensures) in
    tells-numbers m (take (1 + w.result - 1) (drop 1 list)) c.numbers.result c.numbers.ensures
    ∙ ap (λ (n : ℕ). all_below m (take n (drop 1 list)) && once (take n (drop 1 list))) size
    ∙ (λ k. sym few k && all_below m ns && (sym some k && once ns))
