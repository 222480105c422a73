-- `cached_expires`: the time of the row that the entry names is the view's.
use Rattle.std.proofs.Common.{sym, ap, ◌∙◌, subst, ℕ, ◌<◌, arith}
use Rattle.time_cache.specs.Tables.{Lies, row_at, rows_at}
use Rattle.time_cache.specs.declared.cache.TimeBoundCache.{TimeBoundCache}
use Rattle.block.specs.Caches.CachedReads.{row_of}
use Rattle.block.proofs.CachesLaws.CachedLaws.{cached-lies, count-cached}
use Rattle.steps.proofs.SettledLaws.ThenLaws.{cached-time}
use Rattle.steps.proofs.settled.cached_expires.Goals as goal

pub expires-requires : goal.expires-requires
expires-requires c =
    let v = c.args.view.now in
    subst (λ (t : TimeBoundCache). Lies t v.block.now × (c.cached_row-row.result < t.expiry.len)) (sym c.table.ensures.at) (cached-lies v.head.now v.block.now v.sound.fit, c.cached_row-row.ensures.within)

pub returns : goal.returns
returns c =
    let v = c.args.view.now in
    let h = v.head.now in
    let xs = v.block.now in
    c.expires.ensures
    ∙ ap (λ (p : ℕ). (row_at (rows_at c.table.result xs) p).time) c.cached_row-row.ensures.at
    ∙ ap (λ (t : TimeBoundCache). (row_at (rows_at t xs) (row_of h xs c.args.i)).time) c.table.ensures.at
    ∙ cached-time h xs v.sound.fit c.args.i (omega (arith, c.requires, count-cached h xs v.sound.fit))
