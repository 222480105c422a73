use Rattle.block.proofs.Words.{◌∙◌, [], id_of}
use Rattle.block.specs.Views.{shown}
use Rattle.block.proofs.KeyMembers.{found-has}
use Rattle.block.proofs.panel.View.is_missing.Goals as goal

pub returns : goal.returns
returns c = c.is_ok.ensures.value ∙ found-has (id_of c.args.id) [] (shown c.args.self.now).missing c.search_missing.result c.requires c.search_missing.ensures
