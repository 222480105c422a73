-- The search is among the keys that the view shows.
use Rattle.block.proofs.Words.{rules, sym, subst, List, ℕ, id_of, Ascending, FoundIs, keys, up_of}
use Rattle.block.specs.Views.{shown}
use Rattle.block.proofs.MissingLaws.{missing-keys}
use Rattle.block.proofs.panel.View.search_missing.Goals as goal

pub find-requires : goal.find-requires
find-requires c =
    let v = c.args.self.now in
    (search rules, subst Ascending (sym (missing-keys v.head.now v.block.now c.span.result c.span.ensures)) (up_of (keys (shown v).missing) c.requires))

pub returns : goal.returns
returns c =
    let v = c.args.self.now in
    subst (λ (ks : List ℕ). FoundIs ks (id_of c.args.id) c.find.result) (missing-keys v.head.now v.block.now c.span.result c.span.ensures) c.find.ensures
