-- The key of the row, in the tables that the message cache stands in.
use Rattle.block.proofs.Words.{◌≡◌, ◌<◌, sym, subst, id_of, Lies, TimeBoundCache}
use Rattle.time_cache.specs.Gone.{key_of_row}
use Rattle.block.proofs.CachesLaws.CachedLaws.{cached-lies}
use Rattle.block.proofs.panel.View.row_id.Goals as goal

pub key_at-requires : goal.key_at-requires
key_at-requires c =
    let v = c.args.self.now in
    subst (λ (t : TimeBoundCache). Lies t v.block.now × (c.args.row < t.expiry.len)) (sym c.table.ensures.at) (cached-lies v.head.now v.block.now v.sound.fit, c.requires)

pub returns : goal.returns
returns c = subst (λ (t : TimeBoundCache). id_of c.key_at.result ≡ key_of_row t c.args.self.now.block.now c.args.row) c.table.ensures.at c.key_at.ensures
