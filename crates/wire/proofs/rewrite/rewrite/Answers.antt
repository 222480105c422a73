-- `rewrite`: read, measured, asked 14, written.
use Rattle.std.proofs.Common.{arith, ◌≤◌, length}
use Rattle.std.proofs.lemmas.Result.{err_from_is_err_and}
use Rattle.postcard.proofs.FieldBack.{bytes-each}
use Rattle.postcard.specs.Message.{message_bytes}
use Rattle.wire.specs.Reader.Gives.{number_of}
use Rattle.wire.specs.Reader.Values.{message_value}
use Rattle.wire.proofs.RewriteLaws.RewriteLaws.{meant-short, finds-refused, finds-short, finds-wrote}
use Rattle.wire.proofs.rewrite.rewrite.Goals as goal

pub returns-in_err-message : goal.returns-in_err-message
returns-in_err-message c =
    let p = err_from_is_err_and c.from_residual.result c.from_residual.ensures.1 in
    rw (p.1, p.2) (finds-refused c.args.bytes.now c.args.out.now (number_of c.in_err-message.field-0.0) c.in_err-message.ensures)

pub size-size-requires : goal.size-size-requires
size-size-requires c =
    let s : length (message_bytes (message_value c.in_ok-message.message)) ≤ length c.args.bytes.now = meant-short c.args.bytes.now (message_value c.in_ok-message.message) (bytes-each c.args.bytes.now (λ i. omega (arith, c.type_inv.bytes i))) c.in_ok-message.ensures in
    omega (arith, s)

pub returns-then-out-size : goal.returns-then-out-size
returns-then-out-size c = finds-short c.args.bytes.now c.args.out.now (message_value c.in_ok-message.message) c.size-size.result c.in_ok-message.ensures c.size-size.ensures c.if-out-size.true

pub returns : goal.returns
returns c = finds-wrote c.args.bytes.now c.args.out.now _ (message_value c.in_ok-message.message) c.size-size.result c.put.result c.in_ok-message.ensures c.size-size.ensures c.if-out-size.false c.put.ensures
