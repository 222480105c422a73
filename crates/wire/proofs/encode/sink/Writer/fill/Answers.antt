use Rattle.std.proofs.Common.{◌≡◌, ◌+◌, ◌-◌, take, drop, length, ◌∙◌, arith}
use borrow.Rule.Slice.PartMut.{put_mid}
use Rattle.wire.specs.Encode.Intake.{written}
use Rattle.wire.proofs.EncodeLaws.IntakeLaws.{copy_after}
use Rattle.wire.proofs.encode.sink.Writer.fill.Goals as goal

pub returns : goal.returns
returns c =
    let w = c.args.self.now in
    let bs = c.args.bytes.now in
    let n = length w.out.now - w.at in
    let e : c.copy_from_slice.new.self ≡ take n bs = c.copy_from_slice.ensures.after in
    (λ i. written (take (w.at + n) (put_mid w.at n w.out.now (e i))) (drop (w.at + n) (put_mid w.at n w.out.now (e i))) w.out.ghost_name)
    ∙ copy_after w.at n bs w.out.now w.out.ghost_name w.within (omega arith)
