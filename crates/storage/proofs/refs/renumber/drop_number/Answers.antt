-- `renumber::drop_number`: of the first j entries, those that are left stand first (`Going`).
use Rattle.std.proofs.Common.{refl, sym, ◌∙◌, subst, List, [], ℕ, ◌+◌, ◌*◌, ◌≤◌, set, length-set, arith}
use Rattle.storage.proofs.RowsLaws.Rows.{mul-up, row-end}
use Rattle.storage.specs.Refs.Refs.{ref}
use Rattle.storage.proofs.RowsLaws.Kept.{Going, going_start, going_done}
use Rattle.storage.specs.Refs.Numbers.{stays, lower, lower_all, entries}
use Rattle.storage.proofs.RefsLaws.Entries.{entries-long, entries-first, turn-drop, turn-keep}
use Rattle.storage.proofs.refs.renumber.drop_number.Goals as goal
use Rattle.storage.proofs.refs.renumber.drop_number.Goals.{In-loop-j}

-- the row that is read, and the row that it goes to, lie in the slice
room : (c : In-loop-j)
    → (c.loop-j.j * c.args.stride + c.args.stride ≤ c.args.n * c.args.stride)
    × (c.loop-j.kept * c.args.stride ≤ c.loop-j.j * c.args.stride)
    × (c.loop-j.kept ≤ c.loop-j.j)
room c =
    let l = c.loop-j in (
      row-end c.args.stride c.args.n l.j c.loop-j-test.true,
      mul-up c.args.stride l.kept l.j l.invariant.0.behind,
      l.invariant.0.behind,
    )

pub loop-j-init : goal.loop-j-init
loop-j-init c = let a = c.args in (going_start (stays a.i) (lower a.i) (ref 0 []) (entries a.at a.stride a.n a.bytes.now), refl)

pub loop-j-preserved-then-wide-i : goal.loop-j-preserved-then-wide-i
loop-j-preserved-then-wide-i c =
    let l = c.loop-j in
    let a = c.args in
    (turn-drop a.at a.stride a.n a.i a.bytes.now l.bytes c.requires.0 (omega (arith, c.requires, l.invariant.1)) l.invariant.1 l.kept l.j c.loop-j-test.true l.invariant.0 (sym c.wide.ensures ∙ c.if-wide-i.true), l.invariant.1)

pub loop-j-preserved : goal.loop-j-preserved
loop-j-preserved c =
    let l = c.loop-j in
    let a = c.args in (
      subst (λ (ys : List ℕ). Going (stays a.i) (lower a.i) (ref 0 []) (entries a.at a.stride a.n a.bytes.now) (entries a.at a.stride a.n (set ys l.kept c.lower_one.result)) (l.kept + 1) (l.j + 1))
          (sym c.move_down.ensures)
          (turn-keep a.at a.stride a.n a.i a.bytes.now l.bytes c.requires.0 (omega (arith, c.requires, l.invariant.1)) l.invariant.1 l.kept l.j c.loop-j-test.true l.invariant.0 (λ e. c.if-wide-i.false (c.wide.ensures ∙ e)) c.lower_one.result c.lower_one.ensures),
      length-set c.move_down.new.bytes l.kept c.lower_one.result ∙ c.move_down.auto.bytes ∙ l.invariant.1,
    )

pub returns : goal.returns
unfolding lower_all
returns c =
    let l = c.loop-j in
    let a = c.args in
    let g = l.invariant.0 in
    let z = entries-long a.at a.stride a.n a.bytes.now c.requires.0 c.requires.1 in (
      omega (arith, g.behind, g.within, z),
      entries-first a.at a.stride a.n l.bytes c.requires.0 (omega (arith, c.requires, l.invariant.1)) l.kept (omega (arith, g.behind, g.within, z))
          ∙ going_done (stays a.i) (lower a.i) (ref 0 []) (entries a.at a.stride a.n a.bytes.now) (entries a.at a.stride a.n l.bytes) l.kept l.j g (omega (arith, c.loop-j-test.false, z)),
    )
