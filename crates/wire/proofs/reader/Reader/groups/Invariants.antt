use Rattle.std.proofs.Common.{◌-◌}
use Rattle.wire.proofs.ReaderLaws.GroupLaws.{Passed}
use Rattle.wire.proofs.reader.Reader.groups.Given as goal

abbrev pub invariant-loop : goal.invariant-loop
invariant-loop l = Passed l.fn.self.rest.now l.self.rest.now l.padded l.nought l.more (l.more - l.counter) l.top l.low l.scale
