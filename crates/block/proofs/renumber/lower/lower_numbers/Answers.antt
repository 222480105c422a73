-- `lower::lower_numbers`: the first j numbers are lowered, the rest is as it was.
use Rattle.block.proofs.Words.{◌≡◌, refl, ap, ◌∙◌, List, ℕ, ◌+◌, get_or, set, arith}
use Rattle.std.proofs.Common.{length-set}
use Rattle.storage.specs.Refs.Numbers.{lowered}
use Rattle.block.proofs.NeighboursLaws.LoweredRuns.{changed-start, changed-read, changed-more}
use Rattle.block.proofs.renumber.lower.lower_numbers.Goals as goal

pub loop-j-init : goal.loop-j-init
loop-j-init c = (changed-start (lowered c.args.i) c.args.at c.args.bytes.now, refl)

pub loop-j-preserved : goal.loop-j-preserved
loop-j-preserved c =
    let l = c.loop-j in
    let a = c.args in
    let xs = a.bytes.now in
    let h = c.loop-j-test.true in
    let e : c.lower_one.result ≡ lowered a.i (get_or xs (a.at + l.j) 0) =
    c.lower_one.ensures ∙ ap (lowered a.i) (ap (λ (b : List ℕ). get_or b (a.at + l.j) 0) l.invariant.0 ∙ changed-read (lowered a.i) a.at xs l.j (omega (arith, h, c.requires))) in (
      (λ z. set (l.invariant.0 z) (a.at + l.j) (e z)) ∙ changed-more (lowered a.i) a.at xs l.j (omega (arith, h, c.requires)),
      length-set l.bytes (a.at + l.j) c.lower_one.result ∙ l.invariant.1,
    )
