use Rattle.protocol.proofs.Worked.{worked}
use Rattle.protocol.proofs.laws.worked_calls.Goals as goal

pub returns : goal.returns
returns c = worked
