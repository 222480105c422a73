-- `groups`: the loop passes the groups one by one (`Passed`), and the last is judged by `last_group`.
use Rattle.std.proofs.Common.{◌-◌, ◌<◌, ◌*◌, ◌≤◌, ◌^◌, arith, rules}
use Rattle.std.proofs.lemmas.Result.{err_from_is_err_and, IfOk-weaker}
use Rattle.wire.proofs.ReaderLaws.GroupLaws.{more_product, passed-end, passed-last, passed-all, passed-more, room_more, width-more}
use Rattle.wire.specs.Reader.Gives.{number_of}
use Rattle.wire.proofs.reader.Reader.groups.Goals as goal
use Rattle.wire.proofs.reader.Reader.groups.Goals.{Else-b-lt128}

pub returns-in_err-b-clause-gives : goal.returns-in_err-b-clause-gives
returns-in_err-b-clause-gives c =
    let p = err_from_is_err_and c.from_residual.result c.from_residual.ensures.1 in
    rw (p.1, p.2) (passed-end c.loop.invariant (number_of c.in_err-b.field-0.0) c.in_err-b.ensures)

pub last_group-requires-clause-room : goal.last_group-requires-clause-room
last_group-requires-clause-room c = omega (arith, room_more c.loop.invariant (omega arith) c.requires.top)

pub returns-then-b-lt128-clause-gives : goal.returns-then-b-lt128-clause-gives
returns-then-b-lt128-clause-gives c = passed-last c.loop.invariant _ _ c.in_ok-b.ensures _ c.last_group.ensures.gives (omega arith) c.if-b-lt128.true

byte : (c : Else-b-lt128) → c.in_ok-b.b < 256
byte c = search rules

most : (c : Else-b-lt128) → c.loop.scale * (c.in_ok-b.b - 128) ≤ c.loop.scale * 127
most c = more_product c.loop.scale c.in_ok-b.b (byte c)

room : (c : Else-b-lt128) → c.loop.scale * 256 ≤ 2 ^ 64
room c = room_more c.loop.invariant (omega arith) c.requires.top

pub overflow_mul-low : goal.overflow_mul-low
overflow_mul-low c = omega (arith, most c, room c)

pub overflow_add-low : goal.overflow_add-low
overflow_add-low c = omega (arith, most c, room c, c.loop.invariant.below)

pub overflow_mul-scale : goal.overflow_mul-scale
overflow_mul-scale c = omega (arith, room c, c.loop.invariant.below)

pub loop-preserved : goal.loop-preserved
loop-preserved c = passed-more c.loop.invariant _ _ c.in_ok-b.ensures _ (omega arith) (omega arith) c.if-b-lt128.false (byte c)

pub returns-in_err-b-2-clause-gives : goal.returns-in_err-b-2-clause-gives
returns-in_err-b-2-clause-gives c =
    let p = err_from_is_err_and c.from_residual-in_err-b-2.result c.from_residual-in_err-b-2.ensures.1 in
    rw (p.1, p.2) (passed-end c.loop.invariant (number_of c.in_err-b-2.field-0.0) c.in_err-b-2.ensures)

pub returns-clause-gives : goal.returns-clause-gives
returns-clause-gives c = passed-all c.loop.invariant _ _ c.in_ok-b-2.ensures _ c.last_group-2.ensures.gives (omega arith)

pub returns-then-b-lt128-clause-wide : goal.returns-then-b-lt128-clause-wide
returns-then-b-lt128-clause-wide c = IfOk-weaker c.last_group.result _ _ (λ n h. width-more c.loop.invariant n (omega arith) h) c.last_group.ensures.wide
