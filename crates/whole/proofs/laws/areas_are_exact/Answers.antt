use Rattle.whole.proofs.StatesLaws.LeftBy.{area-exact}
use Rattle.whole.proofs.laws.areas_are_exact.Goals as goal

pub returns : goal.returns
returns c = area-exact
