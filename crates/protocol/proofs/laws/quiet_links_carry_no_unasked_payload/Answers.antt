use Rattle.protocol.proofs.Unasked.{no-unasked-payload}
use Rattle.protocol.proofs.laws.quiet_links_carry_no_unasked_payload.Goals as goal

pub returns : goal.returns
returns c = no-unasked-payload
