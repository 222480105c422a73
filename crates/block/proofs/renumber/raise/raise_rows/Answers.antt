-- `renumber::raise_rows`: the numbers of the first k rows are raised, the other rows are as they were.
use Rattle.block.proofs.Words.{◌≡◌, refl, sym, ap, ◌∙◌, subst, List, [], ℕ, ◌+◌, ◌*◌, ◌≤◌, length, get_or, arith, part, rows, length-rows, row-end, Below, done-start, done_all}
use Rattle.storage.proofs.RefsLaws.Shifts.{done}
use Rattle.block.specs.View.{byte_at}
use Rattle.block.specs.Neighbours.Raised.{raised_row}
use Rattle.block.proofs.NeighboursLaws.RaisedRows.{few-in, below_in, count-was, numbers-were, rows_more}
use Rattle.block.proofs.renumber.raise.raise_rows.Goals as goal
use Rattle.block.proofs.renumber.raise.raise_rows.Goals.{In-loop-k, Start}

-- row k lies in the slice
room : (c : In-loop-k)
    → c.loop-k.k * c.args.stride + c.args.stride ≤ length c.loop-k.bytes
room c =
    omega (arith, row-end c.args.stride c.args.n c.loop-k.k c.loop-k-test.true, c.requires.1, c.loop-k.invariant.1)

-- its list: at most 32, and the numbers are below 255
module _ (c : In-loop-k) where
  abbrev s : Start
  s = (goal.at.In-loop-k c).Start

  abbrev row : List ℕ
  row = part (c.loop-k.k * s.args.stride) s.args.stride s.args.bytes.now

  few : byte_at s.args.offset row ≤ 32
  few = few-in 255 s.args.offset row (s.requires.2.each c.loop-k.k c.loop-k-test.true)

  low : Below 255 (part (s.args.offset + 1) (byte_at s.args.offset row) row)
  low = below_in 255 s.args.offset row (s.requires.2.each c.loop-k.k c.loop-k-test.true)

  counted : get_or c.loop-k.bytes (c.loop-k.k * s.args.stride + s.args.offset) 0 ≡ byte_at s.args.offset row
  counted =
      let l = c.loop-k in
      count-was s.args.i s.args.offset s.args.stride s.args.n s.args.bytes.now l.bytes l.k s.requires.0 c.loop-k-test.true s.requires.1 l.invariant.1 l.invariant.0

pub loop-k-init : goal.loop-k-init
loop-k-init c = (done-start (raised_row c.args.i c.args.offset) [] (rows c.args.stride c.args.n c.args.bytes.now), refl)

pub raise_numbers-requires : goal.raise_numbers-requires
raise_numbers-requires c =
    let l = c.loop-k in
    let k = c.count-count in (
      omega (arith, room (goal.at.raise_numbers-requires c).In-loop-k, c.requires.0, few (goal.at.raise_numbers-requires c).In-loop-k, counted (goal.at.raise_numbers-requires c).In-loop-k, k.ensures.0),
      subst (Below 255)
          (sym (numbers-were c.args.i c.args.offset c.args.stride c.args.n c.args.bytes.now l.bytes l.k c.requires.0 c.loop-k-test.true c.requires.1 l.invariant.1 l.invariant.0 k.result k.ensures.0 (few (goal.at.raise_numbers-requires c).In-loop-k)))
          (low (goal.at.raise_numbers-requires c).In-loop-k),
    )

pub loop-k-preserved : goal.loop-k-preserved
loop-k-preserved c =
    let k = c.count-count in
    let l = c.loop-k in (
      ap (rows c.args.stride c.args.n) c.raise_numbers.ensures
          ∙ rows_more c.args.i c.args.offset c.args.stride c.args.n c.args.bytes.now l.bytes l.k c.requires.0 c.loop-k-test.true c.requires.1 l.invariant.1 l.invariant.0 k.result k.ensures.0 (few (goal.at.loop-k-preserved c).In-loop-k),
      c.raise_numbers.auto.bytes ∙ l.invariant.1,
    )

pub returns : goal.returns
returns c =
    let l = c.loop-k in
    let rs = rows c.args.stride c.args.n c.args.bytes.now in
    let f = raised_row c.args.i c.args.offset in
    let e : l.k ≡ c.args.n = omega (arith, c.loop-k-test.false) in
    l.invariant.0 ∙ ap (λ (k : ℕ). done f [] rs k) e ∙ done_all f [] rs c.args.n (length-rows c.args.stride c.args.n c.args.bytes.now)
