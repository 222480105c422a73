-- `renumber::raise_numbers`: the first j numbers are raised, the rest is as it was.
use Rattle.std.proofs.Common.{◌≡◌, refl, ap, ◌∙◌, List, ℕ, ◌+◌, ◌<◌, get_or, set, length-set, arith}
use Rattle.storage.specs.Refs.Refs.{shifted}
use Rattle.storage.proofs.RowsLaws.Parts.{get_d_part, length_part}
use Rattle.storage.proofs.RefsLaws.Raised.{raised-start, raised-read, raised-more}
use Rattle.storage.proofs.refs.renumber.raise_numbers.Goals as goal
use Rattle.storage.proofs.refs.renumber.raise_numbers.Goals.{After-slice_known-in-loop-j-1}

-- the number that is read is as it was, and below 255
was : (c : After-slice_known-in-loop-j-1)
    → (get_or c.loop-j.bytes (c.args.at + c.loop-j.j) 0
    ≡ get_or c.args.bytes.now (c.args.at + c.loop-j.j) 0)
    × (get_or c.args.bytes.now (c.args.at + c.loop-j.j) 0 < 255)
was c =
    let l = c.loop-j in
    let xs = c.args.bytes.now in
    let t = c.loop-j-test.true in (
      ap (λ (b : List ℕ). get_or b (c.args.at + l.j) 0) l.invariant.0 ∙ raised-read c.args.i c.args.at xs l.j (omega (arith, t, c.requires.0)),
      omega (arith, get_d_part c.args.at c.args.n l.j 0 xs t, c.requires.1.below l.j (omega (arith, t, length_part c.args.at c.args.n xs c.requires.0))),
    )

pub loop-j-init : goal.loop-j-init
loop-j-init c = (raised-start c.args.i c.args.at c.args.bytes.now, refl)

pub raise-requires : goal.raise-requires
raise-requires c = omega (arith, (was c).0, (was c).1)

pub loop-j-preserved : goal.loop-j-preserved
loop-j-preserved c =
    let l = c.loop-j in
    let xs = c.args.bytes.now in
    let w = was (goal.at.loop-j-preserved c).After-slice_known-in-loop-j-1 in
    let e : c.raise.result ≡ shifted c.args.i (get_or xs (c.args.at + l.j) 0) =
    c.raise.ensures ∙ c.first_raised-first.ensures (get_or l.bytes (c.args.at + l.j) 0) (omega (arith, w.0, w.1)) ∙ ap (shifted c.args.i) w.0 in (
      (λ z. set (l.invariant.0 z) (c.args.at + l.j) (e z)) ∙ raised-more c.args.i c.args.at xs l.j (omega (arith, c.loop-j-test.true, c.requires.0)),
      length-set l.bytes (c.args.at + l.j) c.raise.result ∙ l.invariant.1,
    )
