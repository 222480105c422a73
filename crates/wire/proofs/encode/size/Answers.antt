use Rattle.wire.proofs.EncodeLaws.IntakeLaws.{counted_is}
use Rattle.wire.proofs.encode.size.Goals as goal

pub returns : goal.returns
returns g c = counted_is c.encode.new.out.count (g.E.Encode.bytes c.args.value.now) c.encode.new.out.small c.requires c.encode.ensures
