-- `table::retain`: of the first i rows, those that are kept stand first (`Going`).
use Rattle.std.proofs.Common.{refl, sym, ◌∙◌, subst, List, [], ℕ, ◌+◌, ◌*◌, ◌≤◌, length, arith}
use Rattle.storage.specs.Rows.Rows.{rows, differs}
use Rattle.storage.proofs.RowsLaws.Rows.{length-rows, mul-up, row-end}
use Rattle.storage.proofs.RowsLaws.Kept.{Going, going_start, turn-gone, turn-stays, retained}
use Rattle.storage.proofs.rows.table.retain.Goals as goal
use Rattle.storage.proofs.rows.table.retain.Goals.{In-loop-i}

-- the row that is read, and the row that it goes to, lie in the slice
room : (c : In-loop-i)
    → (c.loop-i.i * c.args.stride + c.args.stride ≤ length c.loop-i.bytes)
    × (c.loop-i.kept * c.args.stride ≤ c.loop-i.i * c.args.stride)
room c =
    let l = c.loop-i in (
      omega (arith, row-end c.args.stride c.args.n l.i c.loop-i-test.true, c.requires.1, l.invariant.1),
      mul-up c.args.stride l.kept l.i l.invariant.0.behind,
    )

pub loop-i-init : goal.loop-i-init
loop-i-init c = let a = c.args in (going_start (differs a.offset a.gone) (λ (r : List ℕ). r) [] (rows a.stride a.n a.bytes.now), refl)

pub loop-i-preserved-then-byte-gone : goal.loop-i-preserved-then-byte-gone
loop-i-preserved-then-byte-gone c =
    let l = c.loop-i in
    let a = c.args in
    (turn-gone a.stride a.n a.offset a.gone a.bytes.now l.bytes c.requires.0 c.requires.1 l.invariant.1 l.kept l.i c.loop-i-test.true l.invariant.0 c.if-byte-gone.true, l.invariant.1)

pub loop-i-preserved : goal.loop-i-preserved
loop-i-preserved c =
    let l = c.loop-i in
    let a = c.args in (
      subst (λ (ys : List ℕ). Going (differs a.offset a.gone) (λ (r : List ℕ). r) [] (rows a.stride a.n a.bytes.now) (rows a.stride a.n ys) (l.kept + 1) (l.i + 1))
          (sym c.move_down.ensures)
          (turn-stays a.stride a.n a.offset a.gone a.bytes.now l.bytes c.requires.0 c.requires.1 l.invariant.1 l.kept l.i c.loop-i-test.true l.invariant.0 c.if-byte-gone.false),
      c.move_down.auto.bytes ∙ l.invariant.1,
    )

pub returns : goal.returns
returns c =
    let l = c.loop-i in
    let a = c.args in
    let g = l.invariant.0 in
    let q : l.kept ≤ a.n = omega (arith, g.behind, g.within, length-rows a.stride a.n a.bytes.now) in
    (q, retained a.stride a.n a.offset a.gone a.bytes.now l.bytes l.kept l.i g (omega (arith, c.loop-i-test.false)) q)
