-- `drop_places`: of the first i rows, those that are left stand first (`Going`).
use Rattle.std.proofs.Common.{◌≡◌, refl, sym, ap, ◌∙◌, subst, List, [], ◌∷◌, ℕ, ◌+◌, ◌-◌, ◌*◌, ◌≤◌, ◌<◌, le-leb, leb, length, get_or, arith}
use borrow.Author.Tests.{lt-leb}
use Rattle.storage.specs.Rows.Part.{put}
use Rattle.storage.specs.Rows.Digits.{le_bytes}
use Rattle.storage.specs.Refs.Refs.{Ref, ref, refs, names, lowered, left}
use Rattle.storage.proofs.RefsLaws.Places.{length-refs, place_in, refs-first}
use Rattle.storage.proofs.RowsLaws.Rows.{row-end, mul-up}
use Rattle.storage.proofs.RefsLaws.Left.{row_moved}
use Rattle.storage.proofs.RowsLaws.Kept.{Going, going_start, going-read, going-keep, going_drop, going_done}
use Rattle.storage.proofs.refs.drop_places.Goals as goal
use Rattle.storage.proofs.refs.drop_places.Goals.{After-load2-place, In-loop-i}

-- the row that is read, and the row that it goes to, lie in the slice
room : (c : In-loop-i)
    → (c.loop-i.i * c.args.stride + c.args.stride
    ≤ c.args.n * c.args.stride)
    × (c.loop-i.kept * c.args.stride + c.args.stride
    ≤ c.args.n * c.args.stride)
    × (c.loop-i.kept * c.args.stride ≤ c.loop-i.i * c.args.stride)
room c =
    let l = c.loop-i in (
      row-end c.args.stride c.args.n l.i c.loop-i-test.true,
      row-end c.args.stride c.args.n l.kept (omega (arith, c.loop-i-test.true, l.invariant.0.behind)),
      mul-up c.args.stride l.kept l.i l.invariant.0.behind,
    )

-- the row that is read is as it was
was : (c : In-loop-i)
    → get_or (refs c.args.stride c.args.n c.loop-i.bytes) c.loop-i.i (ref 0 [])
    ≡ get_or (refs c.args.stride c.args.n c.args.bytes.now) c.loop-i.i (ref 0 [])
was c =
    let l = c.loop-i in
    going-read (names c.args.k) (lowered c.args.k) (ref 0 []) (refs c.args.stride c.args.n c.args.bytes.now) (refs c.args.stride c.args.n l.bytes) l.kept l.i l.invariant.0

-- its place
place : (c : After-load2-place)
    → c.load2-place.result ≡ (get_or (refs c.args.stride c.args.n c.args.bytes.now) c.loop-i.i (ref 0 [])).place
place c =
    let l = c.loop-i in
    c.load2-place.ensures.0
    ∙ sym (place_in c.args.stride c.args.n l.i (ref 0 []) l.bytes c.requires.0 c.loop-i-test.true)
    ∙ ap (λ (x : Ref). x.place) (was (goal.at.After-load2-place c).In-loop-i)

inside : (c : In-loop-i) → c.loop-i.i < length (refs c.args.stride c.args.n c.args.bytes.now)
inside c = omega (arith, c.loop-i-test.true, length-refs c.args.stride c.args.n c.args.bytes.now)

pub loop-i-init : goal.loop-i-init
loop-i-init c = (going_start (names c.args.k) (lowered c.args.k) (ref 0 []) (refs c.args.stride c.args.n c.args.bytes.now), refl)

pub loop-i-preserved-then-place-k : goal.loop-i-preserved-then-place-k
loop-i-preserved-then-place-k c =
    let l = c.loop-i in
    let a = c.args in
    let rs = refs a.stride a.n a.bytes.now in
    (going_drop (names a.k) (lowered a.k) (ref 0 []) rs (refs a.stride a.n l.bytes) l.kept l.i l.invariant.0 (inside (goal.at.loop-i-preserved-then-place-k c).In-loop-i) (ap (leb a.k) (sym (place (goal.at.loop-i-preserved-then-place-k c).After-load2-place)) ∙ lt-leb a.k c.load2-place.result c.if-place-k.true), l.invariant.1)

pub loop-i-preserved : goal.loop-i-preserved
loop-i-preserved c =
    let l = c.loop-i in
    let a = c.args in
    let rs = refs a.stride a.n a.bytes.now in
    let es = refs a.stride a.n l.bytes in
    let x = c.load2-place.result in
    let h = c.loop-i-test.true in
    let e : refs a.stride a.n c.store_le.new.bytes ≡ put l.kept (lowered a.k (get_or rs l.i (ref 0 [])) ∷ []) es =
    ap (refs a.stride a.n) (c.store_le.ensures ∙ ap (put (l.kept * a.stride) (le_bytes 2 (x - a.k))) c.move_down.ensures)
    ∙ row_moved a.stride a.n l.i l.kept (x - a.k) (ref 0 []) l.bytes c.requires.0 h (omega (arith, h, l.invariant.0.behind)) (omega (arith, l.invariant.1)) (omega (arith, c.load2-place.ensures.1))
    ∙ ap (λ (y : Ref). put l.kept (ref (x - a.k) y.own ∷ []) es) (was (goal.at.loop-i-preserved c).In-loop-i)
    ∙ ap (λ (y : ℕ). put l.kept (ref (y - a.k) (get_or rs l.i (ref 0 [])).own ∷ []) es) (place (goal.at.loop-i-preserved c).After-load2-place) in (
      subst (λ (q : List Ref). Going (names a.k) (lowered a.k) (ref 0 []) rs q (l.kept + 1) (l.i + 1)) (sym e)
          (going-keep (names a.k) (lowered a.k) (ref 0 []) rs es l.kept l.i l.invariant.0 (inside (goal.at.loop-i-preserved c).In-loop-i) (ap (leb a.k) (sym (place (goal.at.loop-i-preserved c).After-load2-place)) ∙ le-leb a.k x c.if-place-k.false)),
      c.store_le.auto.bytes ∙ c.move_down.auto.bytes ∙ l.invariant.1,
    )

pub returns : goal.returns
unfolding left
returns c =
    let l = c.loop-i in
    let a = c.args in
    let k = length-refs a.stride a.n a.bytes.now in
    let j : l.kept ≤ a.n = omega (arith, l.invariant.0.behind, l.invariant.0.within, k) in (
      j,
      refs-first a.stride l.kept a.n l.bytes j
          ∙ going_done (names a.k) (lowered a.k) (ref 0 []) (refs a.stride a.n a.bytes.now) (refs a.stride a.n l.bytes) l.kept l.i l.invariant.0 (omega (arith, k, c.loop-i-test.false)),
    )
