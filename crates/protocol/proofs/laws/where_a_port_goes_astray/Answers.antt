use Rattle.protocol.proofs.Astray.{astray}
use Rattle.protocol.proofs.laws.where_a_port_goes_astray.Goals as goal

pub returns : goal.returns
returns c = astray
