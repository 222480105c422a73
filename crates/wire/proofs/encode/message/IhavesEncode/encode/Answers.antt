-- `Ihaves::encode`: the beginning, then the entries.
use Rattle.wire.proofs.EncodeLaws.IhavesLaws.{ihave-after}
use Rattle.wire.proofs.encode.message.IhavesEncode.encode.Goals as goal

pub returns : goal.returns
returns g c = ihave-after c.args.self.now.count c.args.self.now.bytes.now c.args.self.now.there _ _ _ c.encode.ensures c.encode_entries.ensures
