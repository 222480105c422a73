-- `next`: the first of the announcements that stand there, and the others.
use Rattle.wire.specs.Reader.Gives.{number_of}
use Rattle.postcard.specs.Values.{ihave_value}
use Rattle.wire.proofs.ReaderLaws.AnnouncedLaws.{announced_none, announced_first, announced_there}
use Rattle.wire.proofs.reader.ihaves.IhavesIterator.next.Goals as goal

pub returns-then-self-eq0-clause-steps : goal.returns-then-self-eq0-clause-steps
returns-then-self-eq0-clause-steps c =
    let e = announced_none c.args.self.now.count c.args.self.now.bytes.now c.if-self-eq0.true in (e, e)

pub invariant_of-self : goal.invariant_of-self
invariant_of-self c =
    let f = announced_first (ihave_value c.in-Ok.h) c.args.self.now.bytes.now c.ihave.new.self.rest.now c.args.self.now.count c.if-self-eq0.false c.in-Ok.ensures c.args.self.now.there in
    record { there = f.others }

pub unreachable-requires : goal.unreachable-requires
unreachable-requires c = announced_there c.args.self.now.bytes.now c.args.self.now.count (number_of c.in-Err.field-0) c.if-self-eq0.false c.in-Err.ensures c.args.self.now.there

pub returns-clause-steps : goal.returns-clause-steps
returns-clause-steps c =
    let f = announced_first (ihave_value c.in-Ok.h) c.args.self.now.bytes.now c.ihave.new.self.rest.now c.args.self.now.count c.if-self-eq0.false c.in-Ok.ensures c.args.self.now.there in
    f.list
