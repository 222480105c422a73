use Rattle.std.proofs.Common.{sym, subst, ℕ, Option}
use Rattle.block.specs.Views.{shown}
use Rattle.block.specs.Found.{LinkOf}
use Rattle.block.proofs.FoundLaws.{found-link}
use Rattle.block.proofs.panel.View.find_link.Goals as goal

pub returns : goal.returns
returns c = let s = shown c.args.self.now in subst (λ (o : Option ℕ). LinkOf s c.args.peer o) (sym c.ok.ensures.value) (found-link s c.args.peer c.search_links.result c.search_links.ensures)
