-- `count_from`: of the first i rows, `later` name none of the first k.
use Rattle.std.proofs.Common.{◌≡◌, refl, sym, ap, ◌∙◌, [], ℕ, ◌+◌, ◌*◌, ◌≤◌, ◌<◌, le-leb, leb, length, get_or, take_all, arith, rules}
use borrow.Author.Tests.{lt-leb}
use Rattle.storage.specs.Lists.Base.{count}
use Rattle.storage.specs.Refs.Refs.{ref, refs, names}
use Rattle.storage.proofs.RefsLaws.Places.{length-refs, place_in}
use Rattle.storage.proofs.RowsLaws.Rows.{row-end}
use Rattle.storage.proofs.ListsLaws.Firsts.{count-keep, count-drop}
use Rattle.storage.proofs.refs.count_from.Goals as goal
use Rattle.storage.proofs.refs.count_from.Goals.{After-load2-place, In-loop-i, then-k-place, else-k-place}

-- the row that is read lies in the slice
room : (c : In-loop-i)
    → c.loop-i.i * c.args.stride + c.args.stride
    ≤ c.args.n * c.args.stride
room c = row-end c.args.stride c.args.n c.loop-i.i c.loop-i-test.true

-- the place that was read
was : (c : After-load2-place)
    → c.load2-place.result ≡ (get_or (refs c.args.stride c.args.n c.args.bytes.now) c.loop-i.i (ref 0 [])).place
was c =
    c.load2-place.ensures.0 ∙ sym (place_in c.args.stride c.args.n c.loop-i.i (ref 0 []) c.args.bytes.now c.requires.0 c.loop-i-test.true)

pub loop-i-init : goal.loop-i-init
unfolding count
loop-i-init c = (search rules, refl)

pub loop-i-preserved : goal.loop-i-preserved
loop-i-preserved c =
    let l = c.loop-i in
    let rs = refs c.args.stride c.args.n c.args.bytes.now in
    let h : l.i < length rs = omega (arith, length-refs c.args.stride c.args.n c.args.bytes.now, c.loop-i-test.true) in
    let d = (goal.at.loop-i-preserved c).After-load2-place in
    elim c.if-k-place.branch [
      | then-k-place w ↦ (
        omega arith,
        w.later-is ∙ ap (λ (x : ℕ). x + 1) l.invariant.1
            ∙ sym (count-keep (names c.args.k) l.i (ref 0 []) rs h (ap (leb c.args.k) (sym (was d)) ∙ le-leb c.args.k c.load2-place.result w.if-k-place.true)),
      )
      | else-k-place w ↦ (
        omega arith,
        w.later-is ∙ l.invariant.1
            ∙ sym (count-drop (names c.args.k) l.i (ref 0 []) rs h (ap (leb c.args.k) (sym (was d)) ∙ lt-leb c.args.k c.load2-place.result w.if-k-place.false)),
      )
    ]

pub returns : goal.returns
returns c =
    let l = c.loop-i in
    let rs = refs c.args.stride c.args.n c.args.bytes.now in
    l.invariant.1 ∙ ap (count (names c.args.k)) (take_all l.i rs (omega (arith, length-refs c.args.stride c.args.n c.args.bytes.now, c.loop-i-test.false)))
