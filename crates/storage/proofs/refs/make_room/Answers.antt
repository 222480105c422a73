-- `make_room`: the first j rows are renamed, the others are as they were.
use Rattle.std.proofs.Common.{◌≡◌, refl, sym, ap, ◌∙◌, List, [], ◌∷◌, ℕ, ◌+◌, ◌*◌, ◌≤◌, ◌<◌, get_or, arith}
use Rattle.storage.specs.Rows.Part.{put}
use Rattle.storage.specs.Refs.Refs.{Ref, ref, refs, shifted, moved}
use Rattle.storage.proofs.RefsLaws.Places.{length-refs, length-places, place_in, get_or-map-in, store-place}
use Rattle.storage.proofs.RowsLaws.Rows.{row-end}
use Rattle.storage.proofs.RefsLaws.Shifts.{done, done-start, done-read, done_more, done_all, shifted-le}
use Rattle.storage.proofs.refs.make_room.Goals as goal
use Rattle.storage.proofs.refs.make_room.Goals.{After-load2-place, In-loop-j}

-- the row that is read lies in the slice
room : (c : In-loop-j)
    → c.loop-j.j * c.args.stride + c.args.stride
    ≤ c.args.n * c.args.stride
room c = row-end c.args.stride c.args.n c.loop-j.j c.loop-j-test.true

-- the row of which the place was read is as it was, and the place is below 65535
was : (c : After-load2-place)
    → (c.load2-place.result ≡ (get_or (refs c.args.stride c.args.n c.args.bytes.now) c.loop-j.j (ref 0 [])).place)
    × (c.load2-place.result < 65535)
    × (get_or (refs c.args.stride c.args.n c.loop-j.bytes) c.loop-j.j (ref 0 [])
    ≡ get_or (refs c.args.stride c.args.n c.args.bytes.now) c.loop-j.j (ref 0 []))
was c =
    let l = c.loop-j in
    let rs = refs c.args.stride c.args.n c.args.bytes.now in
    let t = c.loop-j-test.true in
    let k = length-refs c.args.stride c.args.n c.args.bytes.now in
    let r : get_or (refs c.args.stride c.args.n l.bytes) l.j (ref 0 []) ≡ get_or rs l.j (ref 0 []) =
    ap (λ (q : List Ref). get_or q l.j (ref 0 [])) l.invariant.0 ∙ done-read (moved c.args.i) (ref 0 []) rs l.j (omega (arith, t, k)) in
    let e : c.load2-place.result ≡ (get_or rs l.j (ref 0 [])).place =
    c.load2-place.ensures.0 ∙ sym (place_in c.args.stride c.args.n l.j (ref 0 []) l.bytes c.requires.0 t) ∙ ap (λ (x : Ref). x.place) r in (
      e,
      omega (arith, e, get_or-map-in (λ (x : Ref). x.place) rs l.j 0 (ref 0 []) (omega (arith, t, k)), c.requires.2.below l.j (omega (arith, t, length-places c.args.stride c.args.n c.args.bytes.now))),
      r,
    )

pub loop-j-init : goal.loop-j-init
loop-j-init c = (done-start (moved c.args.i) (ref 0 []) (refs c.args.stride c.args.n c.args.bytes.now), refl)

pub shift-requires : goal.shift-requires
shift-requires c = omega (arith, (was (goal.at.shift-requires c).After-load2-place).1)

pub loop-j-preserved : goal.loop-j-preserved
loop-j-preserved c =
    let l = c.loop-j in
    let rs = refs c.args.stride c.args.n c.args.bytes.now in
    let es = refs c.args.stride c.args.n l.bytes in
    let h = c.loop-j-test.true in
    let v = c.shift.result in
    let e : v ≡ shifted c.args.i (get_or rs l.j (ref 0 [])).place = c.shift.ensures ∙ ap (shifted c.args.i) (was (goal.at.loop-j-preserved c).After-load2-place).0 in (
      ap (refs c.args.stride c.args.n) c.store_le.ensures
          ∙ store-place c.args.stride c.args.n l.j v (ref 0 []) l.bytes c.requires.0 h (omega (arith, l.invariant.1)) (omega (arith, shifted-le c.args.i c.load2-place.result, c.shift.ensures, (was (goal.at.loop-j-preserved c).After-load2-place).1))
          ∙ ap (λ (x : Ref). put l.j (ref v x.own ∷ []) es) (was (goal.at.loop-j-preserved c).After-load2-place).2
          ∙ ap (λ (x : ℕ). put l.j (ref x (get_or rs l.j (ref 0 [])).own ∷ []) es) e
          ∙ ap (λ (q : List Ref). put l.j (moved c.args.i (get_or rs l.j (ref 0 [])) ∷ []) q) l.invariant.0
          ∙ done_more (moved c.args.i) (ref 0 []) rs l.j (omega (arith, h, length-refs c.args.stride c.args.n c.args.bytes.now)),
      c.store_le.auto.bytes ∙ l.invariant.1,
    )

pub returns : goal.returns
returns c =
    let l = c.loop-j in
    let rs = refs c.args.stride c.args.n c.args.bytes.now in
    let e : l.j ≡ c.args.n = omega (arith, c.loop-j-test.false) in
    l.invariant.0 ∙ ap (λ (k : ℕ). done (moved c.args.i) (ref 0 []) rs k) e ∙ done_all (moved c.args.i) (ref 0 []) rs c.args.n (length-refs c.args.stride c.args.n c.args.bytes.now)
