-- `may_fit` is the definition's test, by how many bytes there are.
use Rattle.std.proofs.Common.{sym, ◌∙◌, refl, get_or, eq-eqb, ne_eqb, arith}
use Rattle.panel.proofs.RecordsLaws.Pieces.{fit-short, fit-long, fit-two}
use Rattle.panel.proofs.records.may_fit.Goals as goal

pub returns-in-empty : goal.returns-in-empty
returns-in-empty c = sym (fit-short c.args.bytes.now (omega arith))

pub returns-then-a : goal.returns-then-a
returns-then-a c = sym (fit-two c.args.bytes.now (omega arith) ∙ rw (eq-eqb (get_or c.args.bytes.now 0 0) 128 c.if-a.true) refl)

pub returns-else-a : goal.returns-else-a
returns-else-a c =
    let e = ne_eqb (get_or c.args.bytes.now 0 0) 128 c.if-a.false in
    e ∙ sym (fit-two c.args.bytes.now (omega arith) ∙ rw e refl)

pub returns-in_default : goal.returns-in_default
returns-in_default c = sym (fit-long c.args.bytes.now (omega arith))
