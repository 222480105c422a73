use Rattle.protocol.proofs.AlikeCallsLaws.Finer.{alike-finer}
use Rattle.protocol.proofs.laws.alike_is_finer.Goals as goal

pub returns : goal.returns
returns c = alike-finer
