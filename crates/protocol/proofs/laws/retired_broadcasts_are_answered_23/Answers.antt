use Rattle.protocol.proofs.RetiredBroadcasts.{retired-broadcasts}
use Rattle.protocol.proofs.laws.retired_broadcasts_are_answered_23.Goals as goal

pub returns : goal.returns
returns c = retired-broadcasts
