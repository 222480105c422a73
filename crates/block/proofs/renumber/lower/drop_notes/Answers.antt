-- `lower::drop_notes`: of the first j notes, those that are left stand first (`Going`); their numbers are lowered at the end.
use Rattle.block.proofs.Words.{◌≡◌, refl, sym, ap, ◌∙◌, subst, [], List, ℕ, ◌+◌, ◌-◌, ◌*◌, ◌≤◌, length, arith, ref, Ref, entries, stays}
use Rattle.storage.proofs.RowsLaws.Kept.{Going, going_start}
use Rattle.block.specs.Neighbours.Lowered.{NoneFrom}
use Rattle.block.proofs.NeighboursLaws.LoweredRuns.{others-from, long-es, note-goes, notes-stay, notes-lowered}
use Rattle.block.proofs.renumber.lower.drop_notes.Goals as goal

pub loop-j-init : goal.loop-j-init
loop-j-init c = let a = c.args in (going_start (stays a.i) (λ (r : Ref). r) (ref 0 []) (entries a.at 34 a.n a.bytes.now), refl)

pub loop-j-preserved-then-bytes-j : goal.loop-j-preserved-then-bytes-j
loop-j-preserved-then-bytes-j c =
    let l = c.loop-j in
    let a = c.args in (
      note-goes a.at a.n a.i a.bytes.now l.bytes c.requires.0 (omega (arith, c.requires.1, l.invariant.1)) l.invariant.1 l.kept l.j l.invariant.0 c.loop-j-test.true c.if-bytes-j.true,
      l.invariant.1,
    )

pub loop-j-preserved : goal.loop-j-preserved
loop-j-preserved c =
    let l = c.loop-j in
    let a = c.args in
    let e = c.run_end-end.result in
    let z : l.j + (e - l.j) ≡ e = omega (arith, c.run_end-end.ensures.within) in
    let run : NoneFrom a.i l.j (l.j + (e - l.j)) l.bytes = subst (λ (k : ℕ). NoneFrom a.i l.j k l.bytes) (sym z) (others-from a.i l.j e l.bytes c.if-bytes-j.false c.run_end-end.ensures.others) in
    let stay = notes-stay a.at a.n a.i a.bytes.now l.bytes c.requires.0 (omega (arith, c.requires.1, l.invariant.1)) l.invariant.1 l.kept l.j l.invariant.0 (e - l.j) (omega (arith, z, c.run_end-end.ensures.within)) run in
    let G : List ℕ → ℕ → Type 0 = λ b k. Going (stays a.i) (λ (r : Ref). r) (ref 0 []) (entries a.at 34 a.n a.bytes.now) (entries a.at 34 a.n b) (l.kept + (e - l.j)) k in (
      subst (G c.move_notes.new.bytes) z (subst (λ (b : List ℕ). G b (l.j + (e - l.j))) (sym c.move_notes.ensures) stay),
      c.move_notes.auto.bytes ∙ l.invariant.1,
    )

pub lower_numbers-requires : goal.lower_numbers-requires
lower_numbers-requires c =
    let l = c.loop-j in
    let a = c.args in
    let g = l.invariant.0 in
    omega (arith, c.requires, l.invariant.1, g.behind, g.within, long-es a.at a.n a.i a.bytes.now l.bytes c.requires.0 (omega (arith, c.requires.1, l.invariant.1)) l.invariant.1 l.kept l.j g)

pub returns : goal.returns
returns c =
    let l = c.loop-j in
    let a = c.args in
    let g = l.invariant.0 in
    let room : a.at + a.n * 34 ≤ length l.bytes = omega (arith, c.requires.1, l.invariant.1) in (
      omega (arith, g.behind, g.within, long-es a.at a.n a.i a.bytes.now l.bytes c.requires.0 room l.invariant.1 l.kept l.j g),
      ap (entries a.at 34 l.kept) c.lower_numbers.ensures ∙ notes-lowered a.at a.n a.i a.bytes.now l.bytes c.requires.0 room l.invariant.1 l.kept l.j g (omega (arith, c.loop-j-test.false)),
    )
