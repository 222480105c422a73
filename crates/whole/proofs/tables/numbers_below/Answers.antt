-- `numbers_below`: `bad` is 0 just if the first i numbers are below it.
use Rattle.std.proofs.Common.{sym, ap, ◌∙◌, ℕ, lt-ltb, le-ltb, eqb, ltb, get_or}
use Rattle.whole.proofs.AllLaws.{all_none, all_keep, all_drop}
use Rattle.whole.proofs.tables.numbers_below.Goals as goal
use Rattle.whole.proofs.tables.numbers_below.Goals.{then-link_count-numbers, else-link_count-numbers}

pub loop-i-init : goal.loop-i-init
loop-i-init c = sym (all_none (λ n. ltb n c.args.link_count) c.args.numbers.now)

pub loop-i-preserved : goal.loop-i-preserved
loop-i-preserved c =
    let i = c.loop-i.i in
    let count = c.args.link_count in
    let bytes = c.args.numbers.now in
    elim c.if-link_count-numbers.branch [
      | then-link_count-numbers w ↦
          ap (λ (n : ℕ). eqb n 0) w.bad-is ∙ sym (all_drop (λ n. ltb n count) bytes i 0 c.loop-i-test.true (le-ltb (get_or bytes i 0) count w.if-link_count-numbers.true))
      | else-link_count-numbers w ↦
          ap (λ (n : ℕ). eqb n 0) w.bad-is ∙ c.loop-i.invariant
          ∙ sym (all_keep (λ n. ltb n count) bytes i 0 c.loop-i-test.true (lt-ltb (get_or bytes i 0) count w.if-link_count-numbers.false))
    ]
