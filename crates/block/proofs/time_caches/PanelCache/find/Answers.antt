-- The keys of the tables are those of the state.
use Rattle.block.proofs.Words.{List, ℕ, subst, id_of, FoundIs}
use Rattle.block.specs.Views.{shown}
use Rattle.block.proofs.CachesLaws.CacheLaws.{keys_read}
use Rattle.block.proofs.time_caches.PanelCache.find.Goals as goal

pub returns : goal.returns
returns g c =
    let v = c.args.view.now in
    subst (λ (ks : List ℕ). FoundIs ks (id_of c.args.id) c.find.result) (keys_read c.table.result v.block.now (g.Self.PanelCache.of (shown v)) c.table.ensures.stands) c.find.ensures
