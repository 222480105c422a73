use Rattle.wire.proofs.RewriteLaws.RewriteCalls.{rewrite-calls}
use Rattle.wire.proofs.laws.rewriting_is_canonical.Goals as goal

pub returns : goal.returns
returns c = rewrite-calls
