use Rattle.block.proofs.Words.{sym, subst, ℕ, Option, id_of}
use Rattle.block.specs.Views.{shown}
use Rattle.block.specs.Found.{MissingOf}
use Rattle.block.proofs.FoundLaws.{found-missing}
use Rattle.block.proofs.panel.View.find_missing.Goals as goal

pub returns : goal.returns
returns c =
    let s = shown c.args.self.now in
    subst (λ (o : Option ℕ). MissingOf s (id_of c.args.id) o) (sym c.ok.ensures.value) (found-missing s (id_of c.args.id) c.search_missing.result c.requires c.search_missing.ensures)
