-- `tables::same_bytes`: the first i bytes agree.
use Rattle.std.proofs.Common.{sym, eqb, ne_eqb, arith}
use Rattle.alike.proofs.Lists.{list-yes, list-no, list_length}
use Rattle.alike.proofs.tables.same_bytes.Goals as goal

pub returns-then-a-b : goal.returns-then-a-b
returns-then-a-b c = sym (list_length eqb 0 c.args.a.now c.args.b.now c.if-a-b.true)

pub returns-then-a-i : goal.returns-then-a-i
returns-then-a-i c =
    let l = c.loop-i in
    sym (list-no eqb 0 c.args.a.now c.args.b.now l.i (omega (arith, c.loop-i-test.true)) (omega (arith, c.loop-i-test.true, c.if-a-b.false)) (ne_eqb _ _ c.if-a-i.true))

pub returns : goal.returns
returns c =
    let l = c.loop-i in
    sym (list-yes eqb 0 c.args.a.now c.args.b.now c.if-a-b.false (λ k h. l.invariant.1 k (omega (arith, h, c.loop-i-test.false))))
