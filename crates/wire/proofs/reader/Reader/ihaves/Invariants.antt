use Rattle.std.proofs.Common.{◌-◌}
use Rattle.wire.proofs.ReaderLaws.IhaveLaws.{Passing}
use Rattle.wire.proofs.reader.Reader.ihaves.Given as goal

abbrev pub invariant-loop : goal.invariant-loop
invariant-loop l = Passing l.fn.self.rest.now l.self.rest.now l.count (l.count - l.counter)
