-- `get`: what the search found, and the place that stands there.
use Rattle.std.proofs.Common.{subst, ℕ, Result}
use Rattle.storage.specs.Rows.Ident.{id_of}
use Rattle.storage.specs.Rows.Sorted.{FoundIs}
use Rattle.time_cache.specs.Tables.{named, refs_at, rows_at}
use Rattle.time_cache.proofs.ReadLaws.{found_within, found_none, got-at}
use Rattle.time_cache.proofs.cache.TimeBoundCache.get.Goals as goal

pub returns-in_default : goal.returns-in_default
returns-in_default c =
    let k = c.args.self in
    let xs = c.args.block.now in
    found_none k xs (id_of c.args.key) _ (subst (λ (f : Result ℕ ℕ). FoundIs (named (rows_at k xs) (refs_at k xs)) (id_of c.args.key) f) c.in_default.is c.find.ensures)

pub place-row-requires : goal.place-row-requires
place-row-requires c =
    let k = c.args.self in
    let xs = c.args.block.now in
    (c.requires.0, found_within k xs (id_of c.args.key) _ (subst (λ (f : Result ℕ ℕ). FoundIs (named (rows_at k xs) (refs_at k xs)) (id_of c.args.key) f) c.in-Ok.is c.find.ensures))

pub returns : goal.returns
returns c =
    let k = c.args.self in
    let xs = c.args.block.now in
    got-at k xs c.requires.1 (id_of c.args.key) _ c.place-row.result (subst (λ (f : Result ℕ ℕ). FoundIs (named (rows_at k xs) (refs_at k xs)) (id_of c.args.key) f) c.in-Ok.is c.find.ensures) c.place-row.ensures
