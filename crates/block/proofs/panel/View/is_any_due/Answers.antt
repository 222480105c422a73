-- Of the tables that the message cache stands in.
use Rattle.block.proofs.Words.{◌≡◌, not, ap, ◌∙◌, List, subst, is_empty, Expiry, due, cache_at, TimeBoundCache}
use Rattle.block.proofs.CachesLaws.CachedLaws.{cached-expiry}
use Rattle.block.proofs.panel.View.is_any_due.Goals as goal

pub returns : goal.returns
returns c =
    let v = c.args.self.now in
    subst (λ (t : TimeBoundCache). c.is_due.result ≡ not (is_empty (due c.args.instant.0 (cache_at t v.block.now).expiry))) c.table.ensures.at c.is_due.ensures
    ∙ ap (λ (es : List Expiry). not (is_empty (due c.args.instant.0 es))) (cached-expiry v.head.now v.block.now v.sound.fit)
