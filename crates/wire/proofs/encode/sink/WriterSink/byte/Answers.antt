use Rattle.wire.proofs.EncodeLaws.IntakeLaws.{set_after, full_after}
use Rattle.wire.proofs.encode.sink.WriterSink.byte.Goals as goal

pub returns-then-self : goal.returns-then-self
returns-then-self c = let w = c.args.self.now in set_after w.at c.args.b w.out.now w.out.ghost_name c.if-self.true

pub returns-else-self : goal.returns-else-self
returns-else-self c = let w = c.args.self.now in full_after w.at c.args.b w.out.now w.out.ghost_name c.if-self.false
