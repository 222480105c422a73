-- `ascending`: the first i keys ascend; a turn compares neighbours.
use Rattle.std.proofs.Common.{◌≡◌, sym, ◌∙◌, List, ℕ, ◌+◌, ◌-◌, ◌*◌, ◌≤◌, length, get_or, arith}
use Rattle.storage.specs.Rows.Ident.{id_of}
use Rattle.storage.specs.Rows.Sorted.{keys}
use Rattle.storage.proofs.RowsLaws.Sorted.{length-keys, key-at, ascend-more, ascend-done, ascend-not, lt_of, not-lt-of}
use Rattle.storage.proofs.RowsLaws.Ids.{le_false}
use Rattle.std.proofs.lemmas.Map.Keys.{le_from_is_le}
use Rattle.storage.proofs.RowsLaws.Rows.{mul-up, mul-more}
use Rattle.storage.proofs.rows.table.ascending.Goals as goal
use Rattle.storage.proofs.rows.table.ascending.Goals.{After-load_id-key, In-loop-i, Start}

abbrev ks : In-loop-i → List ℕ
ks c = keys c.args.stride c.args.n c.args.bytes.now

-- in a turn: the two rows lie within the slice
spot : (c : In-loop-i)
    → (c.loop-i.i * c.args.stride + c.args.stride ≤ length c.args.bytes.now)
    × ((c.loop-i.i - 1) * c.args.stride + c.args.stride ≤ length c.args.bytes.now)
spot c =
    let i = c.loop-i.i in (
      omega (arith, mul-more c.args.stride i, mul-up c.args.stride (i + 1) c.args.n (omega arith)),
      omega (arith, mul-more c.args.stride (i - 1), mul-up c.args.stride (i - 1 + 1) c.args.n (omega arith)),
    )

-- the keys that were read, and how they stand
read : (c : After-load_id-key)
    → (id_of c.load_id-before.result ≡ get_or (ks (goal.at.After-load_id-key c).In-loop-i) (c.loop-i.i - 1) 0)
    × (id_of c.load_id-key.result ≡ get_or (ks (goal.at.After-load_id-key c).In-loop-i) c.loop-i.i 0)
read c =
    let i = c.loop-i.i in (
      c.load_id-before.ensures ∙ sym (key-at c.args.stride c.args.n (i - 1) c.args.bytes.now (omega (arith, (goal.at.After-load_id-key c).Start)) (omega arith)),
      c.load_id-key.ensures ∙ sym (key-at c.args.stride c.args.n i c.args.bytes.now (omega (arith, (goal.at.After-load_id-key c).Start)) (omega arith)),
    )

pub loop-i-preserved : goal.loop-i-preserved
loop-i-preserved c =
    let i = c.loop-i.i in
    let a = id_of c.load_id-before.result in
    let b = id_of c.load_id-key.result in
    ascend-more (ks (goal.at.loop-i-preserved c).In-loop-i) i c.loop-i.auto.i c.loop-i.invariant
    (lt_of a b (get_or (ks (goal.at.loop-i-preserved c).In-loop-i) (i - 1) 0) (get_or (ks (goal.at.loop-i-preserved c).In-loop-i) i 0) (read (goal.at.loop-i-preserved c).After-load_id-key).0 (read (goal.at.loop-i-preserved c).After-load_id-key).1 (le_false b a (sym c.le.ensures ∙ c.if-le.false)))

pub returns-then-le : goal.returns-then-le
returns-then-le c =
    let i = c.loop-i.i in
    let a = id_of c.load_id-before.result in
    let b = id_of c.load_id-key.result in
    ascend-not (ks (goal.at.returns-then-le c).In-loop-i) i c.loop-i.auto.i (omega (arith, length-keys c.args.stride c.args.n c.args.bytes.now, c.loop-i-test.true))
    (not-lt-of a b (get_or (ks (goal.at.returns-then-le c).In-loop-i) (i - 1) 0) (get_or (ks (goal.at.returns-then-le c).In-loop-i) i 0) (read (goal.at.returns-then-le c).After-load_id-key).0 (read (goal.at.returns-then-le c).After-load_id-key).1 (le_from_is_le b a (sym c.le.ensures ∙ c.if-le.true)))

pub returns : goal.returns
returns c =
    ascend-done (keys c.args.stride c.args.n c.args.bytes.now) c.loop-i.i c.args.n (length-keys c.args.stride c.args.n c.args.bytes.now) c.loop-i-test.false c.loop-i.invariant
