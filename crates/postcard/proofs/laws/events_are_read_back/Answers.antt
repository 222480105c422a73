use Rattle.postcard.proofs.DecodeWritten.{decode-written}
use Rattle.postcard.proofs.laws.events_are_read_back.Goals as goal

pub returns : goal.returns
returns c = decode-written
