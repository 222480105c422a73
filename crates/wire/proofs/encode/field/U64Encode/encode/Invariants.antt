use Rattle.wire.proofs.EncodeLaws.IntakeLaws.{Left}
use Rattle.wire.proofs.encode.field.U64Encode.encode.Given as goal

abbrev pub invariant-loop-w : goal.invariant-loop-w
invariant-loop-w g l = Left l.fn.self l.w (g.S.Sink.intake l.initial.out) (g.S.Sink.intake l.out)

abbrev pub decreases-loop-w : goal.decreases-loop-w
decreases-loop-w g l = l.w
