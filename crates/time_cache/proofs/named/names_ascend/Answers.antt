-- `names_ascend`: the first i places name rows, and the keys of these ascend (`Seen`); `last` is the last of the places, and `first_word` the first word of its key.
use Rattle.std.proofs.Common.{◌≡◌, refl, sym, ap, ◌∙◌, List, ℕ, ◌-◌, ◌<◌, get_or, arith}
use Rattle.storage.specs.Refs.Refs.{refs, places}
use Rattle.storage.specs.Rows.Ident.{id_of}
use Rattle.storage.proofs.RowsLaws.Sorted.{lt_of, not-lt-of}
use Rattle.storage.proofs.RowsLaws.Ids.{le_false}
use Rattle.std.proofs.lemmas.Map.Keys.{le_from_is_le}
use Rattle.time_cache.specs.Tables.{row_at, expiry_rows}
use Rattle.time_cache.proofs.NamedLaws.{keys_in, named-key, seen_one, seen_more, seen_all, seen_none, not_named, not-up}
use Rattle.time_cache.proofs.named.names_ascend.Goals as goal
use Rattle.time_cache.proofs.named.names_ascend.Goals.{After-key-key, In-loop-i, else-key-first_word-via-then-key-first_word+else-le, else-key-first_word-via-else-key-first_word}

abbrev ks : In-loop-i → List ℕ
ks c = let a = c.args in keys_in a.places.stride a.places.len a.places.bytes.now a.expiry.stride a.expiry.len a.expiry.bytes.now

-- the key of the row that was named last, and the key of this one
before : (c : In-loop-i) → (row_at (expiry_rows c.args.expiry.stride c.args.expiry.len c.args.expiry.bytes.now) c.loop-i.last).key ≡ get_or (ks c) (c.loop-i.i - 1) 0
before c =
    let a = c.args in
    let l = c.loop-i in
    named-key a.places.stride a.places.len a.places.bytes.now a.expiry.stride a.expiry.len a.expiry.bytes.now (l.i - 1) l.last l.invariant.1 (omega (arith, c.loop-i-test.true)) _ refl

this : (c : After-key-key) → id_of c.key-key.result ≡ get_or (ks (goal.at.After-key-key c).In-loop-i) c.loop-i.i 0
this c =
    let a = c.args in
    named-key a.places.stride a.places.len a.places.bytes.now a.expiry.stride a.expiry.len a.expiry.bytes.now c.loop-i.i c.place-place.result c.place-place.ensures c.loop-i-test.true _ c.key-key.ensures

pub returns-then-places-eq0 : goal.returns-then-places-eq0
returns-then-places-eq0 c =
    let a = c.args in
    seen_none a.places.stride a.places.len a.places.bytes.now a.expiry.stride a.expiry.len a.expiry.bytes.now c.if-places-eq0.true

pub returns-then-expiry-last : goal.returns-then-expiry-last
returns-then-expiry-last c =
    let a = c.args in
    not_named a.places.stride a.places.len a.places.bytes.now a.expiry.stride a.expiry.len a.expiry.bytes.now 0 c.place-last.result (omega (arith, c.if-places-eq0.false)) c.place-last.ensures c.if-expiry-last.true

pub loop-i-init : goal.loop-i-init
loop-i-init c =
    let a = c.args in
    let z : 0 < a.places.len = omega (arith, c.if-places-eq0.false) in
    let b : c.place-last.result < a.expiry.len = omega (arith, c.if-expiry-last.false) in (
      b,
      c.place-last.ensures,
      omega (arith, c.key-first_word.ensures),
      seen_one a.places.stride a.places.len a.places.bytes.now a.expiry.stride a.expiry.len a.expiry.bytes.now c.place-last.result z c.place-last.ensures b,
    )

pub returns-then-expiry-place : goal.returns-then-expiry-place
returns-then-expiry-place c =
    let a = c.args in
    not_named a.places.stride a.places.len a.places.bytes.now a.expiry.stride a.expiry.len a.expiry.bytes.now c.loop-i.i c.place-place.result c.loop-i-test.true c.place-place.ensures c.if-expiry-place.true

pub returns-then-le : goal.returns-then-le
returns-then-le c =
    let a = c.args in
    let l = c.loop-i in
    let i = (goal.at.returns-then-le c).In-loop-i in
    let k = ks i in
    let x = id_of c.key.result in
    let y = id_of c.key-key.result in
    not-up a.places.stride a.places.len a.places.bytes.now a.expiry.stride a.expiry.len a.expiry.bytes.now l.i l.auto.i c.loop-i-test.true
    (not-lt-of x y (get_or k (l.i - 1) 0) (get_or k l.i 0) (c.key.ensures ∙ before i) (this (goal.at.returns-then-le c).After-key-key) (le_from_is_le y x (sym c.le.ensures ∙ c.if-le.true)))

pub loop-i-preserved : goal.loop-i-preserved
loop-i-preserved c =
    let a = c.args in
    let l = c.loop-i in
    let i = (goal.at.loop-i-preserved c).In-loop-i in
    let k = ks i in
    let q = c.place-place.result in
    let y = id_of c.key-key.result in
    let b : q < a.expiry.len = omega (arith, c.if-expiry-place.false) in
    let e : y ≡ get_or k l.i 0 = this (goal.at.loop-i-preserved c).After-key-key in
    let f : (row_at (expiry_rows a.expiry.stride a.expiry.len a.expiry.bytes.now) l.last).key ≡ get_or k (l.i - 1) 0 = before i in
    let up : get_or k (l.i - 1) 0 < get_or k l.i 0 = elim c.else-key-first_word.branch [
      | else-key-first_word-via-then-key-first_word+else-le w ↦ lt_of (id_of w.key.result) y (get_or k (l.i - 1) 0) (get_or k l.i 0) (w.key.ensures ∙ f) e (le_false y (id_of w.key.result) (sym w.le.ensures ∙ w.if-le.false))
      | else-key-first_word-via-else-key-first_word w ↦ omega (arith, w.if-key-first_word.false, l.invariant.2, e, f)
    ] in (
      b,
      c.place-place.ensures ∙ ap (λ (j : ℕ). get_or (places (refs a.places.stride a.places.len a.places.bytes.now)) j 0) (omega arith),
      omega (arith, c.key-key.ensures),
      seen_more a.places.stride a.places.len a.places.bytes.now a.expiry.stride a.expiry.len a.expiry.bytes.now l.i q l.auto.i l.invariant.3 c.place-place.ensures b up,
    )

pub returns : goal.returns
returns c =
    let a = c.args in
    seen_all a.places.stride a.places.len a.places.bytes.now a.expiry.stride a.expiry.len a.expiry.bytes.now c.loop-i.i c.loop-i.invariant.3 c.loop-i-test.false
