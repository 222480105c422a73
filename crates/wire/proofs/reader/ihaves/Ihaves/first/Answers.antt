-- `first`: they stand where all of them do.
use Rattle.wire.proofs.ReaderLaws.AnnouncedLaws.{front_there, front_take}
use Rattle.wire.proofs.reader.ihaves.Ihaves.first.Goals as goal

pub invariant_of-result : goal.invariant_of-result
invariant_of-result c = record { there = front_there c.args.n c.args.self.count c.args.self.bytes.now c.requires c.args.self.there }

pub returns : goal.returns
returns c = front_take c.args.n c.args.self.count c.args.self.bytes.now c.requires c.args.self.there
