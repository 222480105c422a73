-- Those of the tables that the message cache stands in.
use Rattle.block.proofs.Words.{lit<, ◌≡◌, ◌<◌, ◌≤◌, map, sym, ◌∙◌, subst, expired_keys, Lies, cache_at, TimeBoundCache}
use Rattle.std.proofs.Common.{All}
use Rattle.time_cache.specs.Tables.{Sound}
use Rattle.time_cache.specs.Gone.{key_of_row}
use Rattle.block.proofs.CachesLaws.CachedLaws.{cached-lies, cached-sound, cached-few, cached-expired}
use Rattle.block.proofs.panel.View.forgotten_rows.Goals as goal

pub expired_rows-requires : goal.expired_rows-requires
expired_rows-requires c =
    let v = c.args.self.now in (
      lit< tt,
      (
        subst (λ (t : TimeBoundCache). Lies t v.block.now × Sound t v.block.now) (sym c.table-cache.ensures.at) (cached-lies v.head.now v.block.now v.sound.fit, cached-sound v.head.now v.block.now v.sound c.requires),
        (subst (λ (t : TimeBoundCache). t.entries.len ≤ 512) (sym c.table-cache.ensures.at) (cached-few v.head.now v.block.now v.sound.fit), lit< tt, lit< tt),
      ),
    )

pub returns-clause-keys : goal.returns-clause-keys
returns-clause-keys c =
    let v = c.args.self.now in
    subst (λ (t : TimeBoundCache). map (key_of_row t v.block.now) c.expired_rows.result.items ≡ expired_keys c.args.instant.0 (cache_at t v.block.now)) c.table-cache.ensures.at c.expired_rows.ensures.keys
    ∙ cached-expired v.head.now v.block.now v.sound.fit c.args.instant.0

pub returns-clause-rows : goal.returns-clause-rows
returns-clause-rows c =
    subst (λ (t : TimeBoundCache). All (λ r. r < t.expiry.len) c.expired_rows.result.items) c.table-cache.ensures.at c.expired_rows.ensures.rows
