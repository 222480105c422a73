use Rattle.protocol.proofs.FourTicksLaws.Lists.{four-ticks}
use Rattle.protocol.proofs.laws.no_announcement_waits.Goals as goal

pub returns : goal.returns
returns c = four-ticks
