use Rattle.machine.proofs.LimitMetLaws.{met-13, limit-13}
use Rattle.machine.proofs.laws.limit_met_is_exact.Goals as goal

pub returns : goal.returns
returns c = record { met = met-13; refused_13 = limit-13 }
