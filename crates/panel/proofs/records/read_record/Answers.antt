-- `read_record`: the time is read, bad, or cut; then the length; then the event is there, or cut.
use Rattle.std.proofs.Common.{sym, ◌∙◌, arith}
use Rattle.postcard.proofs.FieldBack.{bytes-each}
use Rattle.wire.specs.Reader.Gives.{number_of}
use Rattle.panel.proofs.RecordsLaws.Pieces.{other_fault, bad-time, cut-time, bad-length, bad-fit, bad-event, cut-length, cut-event, whole, whole-inside}
use Rattle.panel.proofs.records.read_record.Goals as goal

pub returns-in-Ends : goal.returns-in-Ends
returns-in-Ends c = cut-time c.args.bytes.now (rw c.in-Ends.is at c.in-Err.ensures)

pub returns-in_default : goal.returns-in_default
returns-in_default c = bad-time c.args.bytes.now _ c.in-Err.ensures (other_fault c.in-Err.fault c.in_default.not-Ends)

pub returns-then-may_fit : goal.returns-then-may_fit
returns-then-may_fit c =
    cut-length c.args.bytes.now _ _ (bytes-each c.args.bytes.now (λ i. omega (arith, c.type_inv.bytes i))) c.in-Ok.ensures (rw c.in-Ends-stop.is at c.in-Err-number.ensures) (sym c.may_fit.ensures ∙ c.if-may_fit.true)

pub returns-else-may_fit : goal.returns-else-may_fit
returns-else-may_fit c = bad-fit c.args.bytes.now _ _ c.in-Ok.ensures (rw c.in-Ends-stop.is at c.in-Err-number.ensures) (sym c.may_fit.ensures ∙ c.if-may_fit.false)

pub returns-in_default-stop : goal.returns-in_default-stop
returns-in_default-stop c = bad-length c.args.bytes.now _ _ _ c.in-Ok.ensures c.in-Err-number.ensures (other_fault c.in-Err-number.stop c.in_default-stop.not-Ends)

pub returns-then-len-gt-MAX_EVENT : goal.returns-then-len-gt-MAX_EVENT
returns-then-len-gt-MAX_EVENT c = bad-event c.args.bytes.now _ _ _ _ c.in-Ok.ensures c.in-Ok-number.ensures c.if-len-gt-MAX_EVENT.true

pub overflow_sub-result : goal.overflow_sub-result
overflow_sub-result c =
    whole-inside c.args.bytes.now _ _ _ _ _ _ (bytes-each c.args.bytes.now (λ i. omega (arith, c.type_inv.bytes i))) c.in-Ok.ensures c.in-Ok-number.ensures c.in-Ok-bytes.ensures.gives

pub returns-in-Ok-bytes : goal.returns-in-Ok-bytes
returns-in-Ok-bytes c =
    whole c.args.bytes.now _ _ _ _ _ _ (bytes-each c.args.bytes.now (λ i. omega (arith, c.type_inv.bytes i))) c.in-Ok.ensures c.in-Ok-number.ensures c.if-len-gt-MAX_EVENT.false c.in-Ok-bytes.ensures.gives

pub returns-in-Err-bytes : goal.returns-in-Err-bytes
returns-in-Err-bytes c =
    cut-event c.args.bytes.now _ _ _ _ c.in-Ok.ensures c.in-Ok-number.ensures c.if-len-gt-MAX_EVENT.false (number_of c.in-Err-bytes.field-0) c.in-Err-bytes.ensures.gives
