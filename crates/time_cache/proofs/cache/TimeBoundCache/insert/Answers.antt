-- `insert`: the search, the new row, the places, and the key's entry. What was found says which way; `InsertLaws` puts the steps together.
use Rattle.std.proofs.Common.{◌≡◌, sym, ◌∙◌, subst, List, [], ◌∷◌, ℕ, ◌+◌, ◌*◌, ◌≤◌, ◌<◌, length, Result, arith}
use lib.ListN.{length-map}
use Rattle.storage.specs.Rows.Ident.{id_of}
use Rattle.storage.specs.Rows.Part.{put}
use Rattle.storage.specs.Rows.Sorted.{FoundIs, Between}
use Rattle.storage.specs.Refs.Refs.{Ref, ref, places, Below}
use Rattle.time_cache.specs.Tables.{expiry_of, named, cache_of, refs_at, rows_at, row_at, resized, Lies}
use Rattle.time_cache.specs.Steps.{ref_at, Inserts, Places}
use Rattle.time_cache.specs.declared.cache.TimeBoundCache.{TimeBoundCache}
use Rattle.time_cache.proofs.ReadLaws.{length-es, length-rs, found_within}
use Rattle.time_cache.proofs.LoanLaws.{refs-before}
use Rattle.time_cache.proofs.InsertLaws.{lies-kept, room-lies, inserts-over, inserts-between}
use Rattle.time_cache.proofs.cache.TimeBoundCache.insert.Goals as goal
use Rattle.time_cache.proofs.cache.TimeBoundCache.insert.Goals.{After-due-row, After-move_places}

-- the place of the new row is among the rows
low : (d : After-due-row) → d.due-row.result ≤ d.args.self.expiry.len
unfolding cache_of
low d =
    omega (arith, d.due-row.ensures.within, length-map (rows_at d.args.self d.args.block.now) expiry_of, length-rs d.args.self d.args.block.now)

-- after the places moved: the lengths, and the tables
same : (d : After-move_places) → length d.move_places.new.block ≡ length d.args.block.now
same d = d.move_places.auto.block ∙ d.open_row.auto.block

here : (d : After-move_places) → Lies d.args.self d.move_places.new.block
here d = lies-kept d.args.self d.args.block.now d.move_places.new.block (same d) (room-lies d.args.self d.args.block.now d.requires.0)

-- what was found
what : (d : After-move_places) (f : Result ℕ ℕ) → d.find-found.result ≡ f → FoundIs (named (rows_at d.args.self d.args.block.now) (refs_at d.args.self d.args.block.now)) (id_of d.args.key) f
what d f e =
    subst (λ (g : Result ℕ ℕ). FoundIs (named (rows_at d.args.self d.args.block.now) (refs_at d.args.self d.args.block.now)) (id_of d.args.key) g) e d.find-found.ensures

-- a key that is not there goes before one of the entries, or behind all
within : (d : After-move_places) (j : ℕ) → Between (named (rows_at d.args.self d.args.block.now) (refs_at d.args.self d.args.block.now)) (id_of d.args.key) j → j ≤ d.args.self.entries.len
unfolding named
within d j b =
    omega (arith, b.within, length-map (refs_at d.args.self d.args.block.now) (λ (r : Ref). (row_at (rows_at d.args.self d.args.block.now) r.place).key), length-es d.args.self d.args.block.now)

pub open_row-requires : goal.open_row-requires
open_row-requires c = (c.requires.0, omega (arith, low (goal.at.open_row-requires c).After-due-row))

pub move_places-requires : goal.move_places-requires
move_places-requires c =
    let k = c.args.self in
    let xs = c.args.block.now in
    let l = room-lies k xs c.requires.0 in (
      lies-kept k xs c.open_row.new.block c.open_row.auto.block l,
      subst (λ (es : List Ref). Below k.expiry.len (places es))
          (sym (refs-before k.entries.stride k.entries.len k.entries.at k.expiry.at ((k.expiry.len + 1) * k.expiry.stride) xs c.open_row.new.block l.apart c.requires.0.within c.open_row.auto.block c.open_row.ensures.only))
          c.requires.1.below,
    )

pub store_place-requires : goal.store_place-requires
store_place-requires c =
    (here (goal.at.store_place-requires c).After-move_places, found_within c.args.self c.args.block.now (id_of c.args.key) _ (what (goal.at.store_place-requires c).After-move_places _ c.in-Ok.is), omega (arith, low (goal.at.store_place-requires c).After-due-row, c.requires.0.few))

pub open_entry-requires : goal.open_entry-requires
open_entry-requires c =
    let w = within (goal.at.open_entry-requires c).After-move_places _ (what (goal.at.open_entry-requires c).After-move_places _ c.in-Err.is) in
    (lies-kept (resized (c.args.self.entries.len + 1) (c.args.self.expiry.len + 1) c.args.self) c.args.block.now c.move_places.new.block (same (goal.at.open_entry-requires c).After-move_places) c.requires.0, omega (arith, w))

pub store_place-requires-in-Err : goal.store_place-requires-in-Err
store_place-requires-in-Err c =
    let k = c.args.self in
    let w = within (goal.at.store_place-requires-in-Err c).After-move_places _ (what (goal.at.store_place-requires-in-Err c).After-move_places _ c.in-Err.is) in
    subst (λ (r : TimeBoundCache). Lies r c.open_entry.new.block × (c.in-Err.entry < r.entries.len) × (c.due-row.result < 65536)) (sym c.resized-cache-in-Err.ensures) (
      lies-kept (resized (k.entries.len + 1) (k.expiry.len + 1) k) c.args.block.now c.open_entry.new.block (c.open_entry.auto.block ∙ same (goal.at.store_place-requires-in-Err c).After-move_places) c.requires.0,
      omega (arith, w),
      omega (arith, low (goal.at.store_place-requires-in-Err c).After-due-row, c.requires.0.few),
    )

pub returns-in-Ok : goal.returns-in-Ok
returns-in-Ok c =
    let k = c.args.self in
    subst (λ (r : TimeBoundCache). Inserts k (id_of c.args.key) c.args.expires.0 c.args.block.now (record { cache = r; entry = c.in-Ok.entry; row = c.due-row.result }) c.store_place.new.block) (sym c.resized-cache.ensures)
    (inserts-over k (id_of c.args.key) c.args.expires.0 c.due-row.result c.args.block.now c.open_row.new.block c.move_places.new.block c.requires.0 c.requires.1 c.due-row.ensures
    c.open_row.ensures c.open_row.auto.block c.move_places.ensures c.move_places.auto.block _ c.store_place.new.block c.store_place.auto.block (what (goal.at.returns-in-Ok c).After-move_places _ c.in-Ok.is) c.store_place.ensures)

pub returns-in-Err : goal.returns-in-Err
returns-in-Err c =
    let k = c.args.self in
    let j = c.in-Err.entry in
    let i = c.due-row.result in
    let big = (k.entries.len + 1) * k.entries.stride in
    let grown = resized (k.entries.len + 1) (k.expiry.len + 1) k in
    let vs = c.open_entry.new.block in
    let ws = c.store_place-in-Err.new.block in
    let e : c.resized-cache-in-Err.result ≡ grown = c.resized-cache-in-Err.ensures in
    subst (λ (r : TimeBoundCache). Inserts k (id_of c.args.key) c.args.expires.0 c.args.block.now (record { cache = r; entry = j; row = i }) ws) (sym e)
    (inserts-between k (id_of c.args.key) c.args.expires.0 i c.args.block.now c.open_row.new.block c.move_places.new.block c.requires.0 c.requires.1 c.due-row.ensures
    c.open_row.ensures c.open_row.auto.block c.move_places.ensures c.move_places.auto.block j vs ws c.open_entry.auto.block c.store_place-in-Err.auto.block
    (what (goal.at.returns-in-Err c).After-move_places _ c.in-Err.is) c.open_entry.ensures
    (subst (λ (r : TimeBoundCache). Places r (put j (ref i (ref_at (refs_at r vs) j).own ∷ []) (refs_at r vs)) (r.entries.len * r.entries.stride) vs ws) e c.store_place-in-Err.ensures))
