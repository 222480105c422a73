use Rattle.whole.proofs.CreateLaws.{creation-whole}
use Rattle.whole.proofs.laws.creations_are_whole.Goals as goal

pub returns : goal.returns
returns c = creation-whole
