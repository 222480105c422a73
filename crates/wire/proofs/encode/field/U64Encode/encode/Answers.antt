-- The groups of w are left to write (`Left`). The measure is w.
use Rattle.std.proofs.Common.{arith}
use Rattle.wire.proofs.EncodeLaws.IntakeLaws.{left_start, left-more, left-last}
use Rattle.wire.proofs.encode.field.U64Encode.encode.Goals as goal

pub loop-w-init : goal.loop-w-init
loop-w-init g c = left_start c.args.self.now (g.S.Sink.intake c.args.out.now) (omega arith)

pub loop-w-preserved : goal.loop-w-preserved
loop-w-preserved g c = left-more c.loop-w.invariant _ c.loop-w-test.true c.byte.ensures

pub returns : goal.returns
returns g c = left-last c.loop-w.invariant _ c.loop-w-test.false c.byte-2.ensures
