-- The place in the entry.
use Rattle.block.proofs.Words.{◌<◌, sym, ap, ◌∙◌, subst, ℕ, Lies, refs_at, ref_at, TimeBoundCache}
use Rattle.block.proofs.CachesLaws.CachedLaws.{cached-lies}
use Rattle.block.proofs.CachesLaws.ContentReads.{entry-below, place-below}
use Rattle.block.proofs.panel.View.cached_row.Goals as goal

pub place-requires : goal.place-requires
place-requires c =
    let v = c.args.self.now in
    subst (λ (t : TimeBoundCache). Lies t v.block.now × (c.args.entry < t.entries.len)) (sym c.table.ensures.at)
    (cached-lies v.head.now v.block.now v.sound.fit, entry-below v.head.now v.block.now v.sound c.args.entry c.requires)

pub returns : goal.returns
returns c =
    let v = c.args.self.now in
    let at = c.place.ensures ∙ ap (λ (t : TimeBoundCache). (ref_at (refs_at t v.block.now) c.args.entry).place) c.table.ensures.at in
    record { at = at; within = subst (λ (n : ℕ). n < v.head.now.live.cached_rows) (sym at) (place-below v.head.now v.block.now v.sound c.args.entry c.requires) }
