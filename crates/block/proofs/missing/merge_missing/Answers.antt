-- `merge_missing`: each turn is a row of the merge.
use Rattle.block.proofs.Words.{◌≡◌, refl, sym, ap, ◌∙◌, subst, List, map, ℕ, ◌+◌, ◌-◌, ◌≤◌, ◌<◌, arith, false, length, take, drop, drop_of_length-le, get_or, id_of, Ascending, Between}
use Rattle.std.proofs.lemmas.List.Elements.{All-nil, All-get_or}
use Rattle.std.specs.List.{All}
use lib.ListN.{length-map, get_or-map}
use Rattle.storage.specs.Lists.Base.{member}
use Rattle.storage.specs.Rows.Sorted.{key_of}
use Rattle.storage.specs.Tables.Listed.{listed, merged}
use Rattle.storage.proofs.TablesLaws.Listed.{length-listed}
use Rattle.storage.proofs.TablesLaws.Merges.{up-first, none-first, merging-start, merging-front, merging-row, merging-done}
use Rattle.postcard.specs.declared.message.Ihave.{Ihave}
use Rattle.block.specs.Rows.{MissedRow, missed, missed_row, missed_by}
use Rattle.block.proofs.MergeLaws.{all-before, id_there, row-keys}
use Rattle.block.proofs.missing.merge_missing.Goals as goal
use Rattle.block.proofs.missing.merge_missing.Goals.{Start, In-loop-left}

abbrev InTwo : Ihave → Type 0
InTwo h = h.round.0 < 65536

abbrev key : MissedRow → ℕ
key r = r.id

abbrev fresh_rows : Start → List MissedRow
fresh_rows c = map (missed_by c.args.link) c.args.fresh.now

-- the keys of the rows that were there
abbrev keys_before : Start → List ℕ
keys_before c = listed 129 key_of c.args.n c.args.table.now

front-keys : (c : In-loop-left) → listed 129 key_of c.loop-left.front c.loop-left.table ≡ take c.loop-left.front (keys_before (goal.at.In-loop-left c).Start)
front-keys c =
    merging-front key 129 c.args.n missed_row key_of id_there (fresh_rows (goal.at.In-loop-left c).Start) c.args.table.now c.loop-left.front c.loop-left.left c.loop-left.table c.loop-left.invariant.0

front-low : (c : In-loop-left) → c.loop-left.front ≤ c.args.n
front-low c = omega (arith, c.loop-left.invariant.0.front, length-listed missed_row 129 c.args.n c.args.table.now)

pub loop-left-init : goal.loop-left-init
loop-left-init c =
    let hs : List Ihave = c.args.fresh.now in (
      merging-start key 129 c.args.n missed_row key_of id_there (fresh_rows (goal.at.loop-left-init c).Start) c.args.table.now c.args.n (length hs) refl (sym (length-map hs (missed_by c.args.link))),
      subst (All InTwo) (sym (drop_of_length-le hs (omega arith))) (All-nil InTwo),
    )

pub find_gap-place-requires : goal.find_gap-place-requires
find_gap-place-requires c =
    let l = c.loop-left in
    let at = (goal.at.find_gap-place-requires c).In-loop-left in
    let ks : List ℕ = keys_before (goal.at.find_gap-place-requires c).Start in
    let low : l.front ≤ length ks = omega (arith, front-low at, length-listed key_of 129 c.args.n c.args.table.now) in
    let k : ℕ = id_of (get_or c.args.fresh.now (l.left - 1) _).id in (
      omega (arith, front-low at, c.requires.room, l.auto.table),
      subst Ascending (sym (front-keys at)) (up-first l.front ks low c.requires.up.0),
      ap (member k) (front-keys at) ∙ none-first l.front k ks low (All-get_or (λ (h : Ihave). member (id_of h.id) ks ≡ false) c.args.fresh.now (l.left - 1) _ (omega (arith, l.auto.left, c.loop-left-test.true)) c.requires.new),
    )

pub merge_row-requires : goal.merge_row-requires
merge_row-requires c =
    let l = c.loop-left in (
      omega arith,
      omega (arith, c.find_gap-place.ensures.within, length-listed key_of 129 l.front l.table),
      omega arith,
      omega (arith, front-low (goal.at.merge_row-requires c).In-loop-left, l.auto.left, c.loop-left-test.true, c.requires.room, l.auto.table),
    )

pub loop-left-preserved : goal.loop-left-preserved
loop-left-preserved c =
    let l = c.loop-left in
    let a = c.args in
    let rows : List MissedRow = fresh_rows (goal.at.loop-left-preserved c).Start in
    let n : length rows ≡ length a.fresh.now = length-map a.fresh.now (missed_by a.link) in
    let made = c.announced-row.ensures.row in
    let row : MissedRow = missed (id_of c.announced-row.result.id) c.announced-row.result.announcers.0 in
    let e : l.left ≡ l.left - 1 + 1 = omega (arith, c.loop-left-test.true) in
    let low = front-low (goal.at.loop-left-preserved c).In-loop-left in
    let cur : List MissedRow = listed 129 missed_row (a.n + length rows) l.table in (
      merging-row key 129 a.n missed_row key_of id_there rows a.table.now l.front (l.left - 1) l.left c.find_gap-place.result _ row l.table c.merge_row.new.bytes e l.invariant.0
          (subst Ascending (sym (row-keys a.link a.fresh.now)) c.requires.up.1)
          (made ∙ sym (get_or-map (missed_by a.link) a.fresh.now (l.left - 1) _))
          (subst (λ (k : ℕ). Between (listed 129 key_of l.front l.table) k c.find_gap-place.result) (sym (ap key made)) c.find_gap-place.ensures)
          (c.merge_row.ensures (a.n + length rows) (omega (arith, low, n, l.auto.left, c.loop-left-test.true)) (omega (arith, n, c.requires.room, l.auto.table))
          ∙ ap (λ (k : ℕ). merged l.front c.find_gap-place.result k row cur) (sym e)),
      all-before InTwo a.fresh.now l.left _ c.loop-left-test.true l.auto.left c.announced-row.ensures.round l.invariant.1,
    )

pub returns-clause-rounds : goal.returns-clause-rounds
returns-clause-rounds c =
    let l = c.loop-left in
    let hs : List Ihave = c.args.fresh.now in
    let z : l.left ≡ 0 = omega (arith, c.loop-left-test.false) in
    subst (λ (k : ℕ). All InTwo (drop k hs)) z l.invariant.1

pub returns-clause-rows : goal.returns-clause-rows
returns-clause-rows c =
    let l = c.loop-left in
    let a = c.args in
    let rows : List MissedRow = fresh_rows (goal.at.returns-clause-rows c).Start in
    ap (λ (k : ℕ). listed 129 missed_row (a.n + k) l.table) (sym (length-map a.fresh.now (missed_by a.link)))
    ∙ merging-done key 129 a.n missed_row key_of id_there rows a.table.now l.front l.left l.table (omega (arith, c.loop-left-test.false)) l.invariant.0
