use Rattle.protocol.proofs.NeverFive.{created-never-five}
use Rattle.protocol.proofs.laws.never_answered_five.Goals as goal

pub returns : goal.returns
returns c = created-never-five
