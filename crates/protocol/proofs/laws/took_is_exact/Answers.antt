use Rattle.protocol.proofs.TookExact.{took-exact}
use Rattle.protocol.proofs.laws.took_is_exact.Goals as goal

pub returns : goal.returns
returns c = took-exact
