-- `store_le`: the slice is what it was with the first i bytes of the value put at `at`, and `rest` is the value without them.
use Rattle.std.proofs.Common.{refl, sym, ◌+◌, length-set, div-one, arith}
use Rattle.storage.specs.Rows.Digits.{le_bytes}
use Rattle.storage.proofs.RowsLaws.Words.{le_write, div-next}
use Rattle.storage.proofs.RowsLaws.Parts.{put-nil}
use Rattle.storage.proofs.rows.word.store_le.Goals as goal

pub loop-i-init : goal.loop-i-init
unfolding le_bytes
loop-i-init c = (sym (put-nil c.args.at c.args.bytes.now), sym (div-one c.args.value), refl)

pub loop-i-preserved : goal.loop-i-preserved
loop-i-preserved c =
    let l = c.loop-i in (
      le_write c.args.bytes.now l.bytes c.args.at l.i c.args.value l.rest (omega arith) l.invariant.0 l.invariant.1,
      div-next l.i (l.i + 1) c.args.value l.rest refl l.invariant.1,
      simp length-set l.invariant.2,
    )
