-- `tables::same_rows`: the first i rows agree.
use Rattle.alike.proofs.Words.{ap, not, ◌≡◌, sym, ◌∙◌, true, ℕ, below_more, arith, rules, no, yes, shown}
use Rattle.alike.specs.Rows.{same_row}
use Rattle.alike.proofs.Entries.{rows-yes, rows-no, rows-length}
use Rattle.alike.proofs.tables.same_rows.Goals as goal

pub returns-then-n-rows_of : goal.returns-then-n-rows_of
returns-then-n-rows_of c =
    sym (rows-length (shown c.args.x.now) (shown c.args.y.now) c.args.table (λ e. c.if-n-rows_of.true (c.rows_of-n.ensures ∙ e ∙ sym c.rows_of.ensures)))

pub returns-then-not-same_row : goal.returns-then-not-same_row
returns-then-not-same_row c =
    let l = c.loop-i in
    let t = c.loop-i-test.true in
    sym (rows-no (shown c.args.x.now) (shown c.args.y.now) c.args.table l.i
    (omega (arith, t, c.rows_of-n.ensures)) (omega (arith, t, c.if-n-rows_of.false, c.rows_of.ensures)) (no c.same_row.ensures (ap not c.if-not-same_row.true)))

pub loop-i-preserved : goal.loop-i-preserved
loop-i-preserved c =
    let l = c.loop-i in
    (search rules, below_more (λ (k : ℕ). same_row c.args.table (shown c.args.x.now) (shown c.args.y.now) k ≡ true) l.i l.invariant.1 (yes c.same_row.ensures (ap not c.if-not-same_row.false)))

pub returns : goal.returns
returns c =
    let l = c.loop-i in
    sym (rows-yes (shown c.args.x.now) (shown c.args.y.now) c.args.table
    (sym c.rows_of-n.ensures ∙ c.if-n-rows_of.false ∙ c.rows_of.ensures) (λ k h. l.invariant.1 k (omega (arith, h, c.loop-i-test.false, c.rows_of-n.ensures))))
