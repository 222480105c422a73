-- `lower::drop_in_rows`: the lists of the first k rows are lowered, the other rows are as they were.
use Rattle.block.proofs.Words.{◌≡◌, refl, ap, ◌∙◌, List, ◌++◌, ℕ, ◌+◌, ◌-◌, ◌*◌, ◌≤◌, length, get_or, take, drop, arith, part, put, length_part, length-put, part-between, loan-put, get_d_part, row-end, done-start, done_all}
use Rattle.storage.proofs.RefsLaws.Shifts.{done}
use Rattle.block.specs.Neighbours.Lowered.{listed_of, listed, lower_listed}
use Rattle.block.proofs.NeighboursLaws.LoweredRows.{no_listed, count-was, rows_more, length-listed}
use Rattle.block.proofs.renumber.lower.drop_in_rows.Goals as goal
use Rattle.block.proofs.renumber.lower.drop_in_rows.Goals.{In-loop-k, Start}

-- row k lies in the slice
room : (c : In-loop-k)
    → c.loop-k.k * c.args.stride + c.args.stride ≤ length c.loop-k.bytes
room c =
    omega (arith, row-end c.args.stride c.args.n c.loop-k.k c.loop-k-test.true, c.requires.1, c.loop-k.invariant.1)

pub loop-k-init : goal.loop-k-init
loop-k-init c =
    let a = c.args in
    (done-start (lower_listed a.i) no_listed (listed a.offset a.stride a.n a.bytes.now), refl)

-- what is lent
module _ (c : In-loop-k) where
  abbrev s : Start
  s = (goal.at.In-loop-k c).Start

  abbrev b : List ℕ
  b = c.loop-k.bytes

  abbrev at : ℕ
  at = c.loop-k.k * s.args.stride + s.args.offset

  lent : take (at + 97 - at) (drop at b) ≡ part at 97 b
  lent = part-between at 97 b

  counted : get_or b at 0 ≤ 32
  counted =
      let l = c.loop-k in
      let a = s.args in
      omega (
        arith,
        s.requires.2.each l.k c.loop-k-test.true,
        count-was a.i a.offset a.stride a.n a.bytes.now b l.k s.requires.0 c.loop-k-test.true s.requires.1 l.invariant.1 l.invariant.0,
      )

pub drop_in_list-requires : goal.drop_in_list-requires
drop_in_list-requires c =
    let z : at (goal.at.drop_in_list-requires c).In-loop-k + 0 ≡ at (goal.at.drop_in_list-requires c).In-loop-k = omega arith in (
      ap length (lent (goal.at.drop_in_list-requires c).In-loop-k) ∙ length_part (at (goal.at.drop_in_list-requires c).In-loop-k) 97 (b (goal.at.drop_in_list-requires c).In-loop-k) (omega (arith, room (goal.at.drop_in_list-requires c).In-loop-k, (s (goal.at.drop_in_list-requires c).In-loop-k).requires.0)),
      omega (arith, ap (λ (l : List ℕ). get_or l 0 0) (lent (goal.at.drop_in_list-requires c).In-loop-k), get_d_part (at (goal.at.drop_in_list-requires c).In-loop-k) 97 0 0 (b (goal.at.drop_in_list-requires c).In-loop-k) (omega arith), ap (λ (j : ℕ). get_or (b (goal.at.drop_in_list-requires c).In-loop-k) j 0) z, counted (goal.at.drop_in_list-requires c).In-loop-k),
    )

pub loop-k-preserved : goal.loop-k-preserved
loop-k-preserved c =
    let l = c.loop-k in
    let a = (s (goal.at.loop-k-preserved c).In-loop-k).args in
    let list = c.drop_in_list.new.list in
    let z : at (goal.at.loop-k-preserved c).In-loop-k + 97 - at (goal.at.loop-k-preserved c).In-loop-k ≡ 97 = omega arith in
    let ll : length list ≡ 97 = c.drop_in_list.auto.list ∙ ap length (lent (goal.at.loop-k-preserved c).In-loop-k) ∙ length_part (at (goal.at.loop-k-preserved c).In-loop-k) 97 (b (goal.at.loop-k-preserved c).In-loop-k) (omega (arith, room (goal.at.loop-k-preserved c).In-loop-k, (s (goal.at.loop-k-preserved c).In-loop-k).requires.0)) in
    let w : take (at (goal.at.loop-k-preserved c).In-loop-k) (b (goal.at.loop-k-preserved c).In-loop-k) ++ (list ++ drop (at (goal.at.loop-k-preserved c).In-loop-k + 97 - at (goal.at.loop-k-preserved c).In-loop-k) (drop (at (goal.at.loop-k-preserved c).In-loop-k) (b (goal.at.loop-k-preserved c).In-loop-k))) ≡ put (at (goal.at.loop-k-preserved c).In-loop-k) list (b (goal.at.loop-k-preserved c).In-loop-k) =
    ap (λ (m : ℕ). take (at (goal.at.loop-k-preserved c).In-loop-k) (b (goal.at.loop-k-preserved c).In-loop-k) ++ (list ++ drop m (drop (at (goal.at.loop-k-preserved c).In-loop-k) (b (goal.at.loop-k-preserved c).In-loop-k)))) z ∙ loan-put (at (goal.at.loop-k-preserved c).In-loop-k) 97 list (b (goal.at.loop-k-preserved c).In-loop-k) ll in (
      ap (listed a.offset a.stride a.n) w
          ∙ rows_more a.i a.offset a.stride a.n a.bytes.now (b (goal.at.loop-k-preserved c).In-loop-k) l.k (s (goal.at.loop-k-preserved c).In-loop-k).requires.0 c.loop-k-test.true (s (goal.at.loop-k-preserved c).In-loop-k).requires.1 l.invariant.1 l.invariant.0 list ll
          (c.drop_in_list.ensures ∙ ap (λ (t : List ℕ). lower_listed a.i (listed_of 0 t)) (lent (goal.at.loop-k-preserved c).In-loop-k)),
      ap length w ∙ length-put (at (goal.at.loop-k-preserved c).In-loop-k) list (b (goal.at.loop-k-preserved c).In-loop-k) (omega (arith, room (goal.at.loop-k-preserved c).In-loop-k, (s (goal.at.loop-k-preserved c).In-loop-k).requires.0)) ∙ l.invariant.1,
    )

pub returns : goal.returns
returns c =
    let l = c.loop-k in
    let a = c.args in
    let rs = listed a.offset a.stride a.n a.bytes.now in
    let f = lower_listed a.i in
    let e : l.k ≡ a.n = omega (arith, c.loop-k-test.false) in
    l.invariant.0 ∙ ap (λ (k : ℕ). done f no_listed rs k) e ∙ done_all f no_listed rs a.n (length-listed a.offset a.stride a.n a.bytes.now)
