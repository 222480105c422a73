use Rattle.postcard.proofs.Retired.{retired-is-exact}
use Rattle.postcard.proofs.laws.retired_is_exact.Goals as goal

pub returns : goal.returns
returns c = retired-is-exact
