-- `lists_pass`: the lists of the first i rows pass.
use Rattle.whole.proofs.Words.{refl, sym, ap, ◌∙◌, not, [], ◌-◌, arith, drop, rows, length-rows}
use Rattle.whole.specs.Held.{all_lists}
use Rattle.whole.proofs.Tests.{no, yes}
use Rattle.whole.proofs.AllLaws.{all_none, all_keep, all-not, all_done, list_at}
use Rattle.whole.proofs.tables.lists_pass.Goals as goal

pub loop-i-init : goal.loop-i-init
loop-i-init g c f t = all_none (λ row. f (drop (c.args.row_width - 97) row)) (rows c.args.row_width c.args.row_count c.args.bytes.now)

pub loop-i-preserved : goal.loop-i-preserved
loop-i-preserved g c f t =
    let w = c.args.row_width in
    let n = c.args.row_count in
    let b = c.args.bytes.now in
    let i = c.loop-i.i in
    let told = t _ c.test.result (record { shown = _; shows = refl; says = record { met = c.test.ensures } }) ∙ ap f (list_at w n i (w - 97) 97 b (omega arith) c.loop-i-test.true c.requires.room.1) in
    all_keep (λ row. f (drop (w - 97) row)) (rows w n b) i [] (omega (arith, c.loop-i-test.true, length-rows w n b)) (yes told (ap not c.if-not-test.false)) ∙ c.loop-i.invariant f t

pub returns-then-not-test : goal.returns-then-not-test
unfolding all_lists
returns-then-not-test g c f t =
    let w = c.args.row_width in
    let n = c.args.row_count in
    let b = c.args.bytes.now in
    let i = c.loop-i.i in
    let told = t _ c.test.result (record { shown = _; shows = refl; says = record { met = c.test.ensures } }) ∙ ap f (list_at w n i (w - 97) 97 b (omega arith) c.loop-i-test.true c.requires.room.1) in
    all-not (λ row. f (drop (w - 97) row)) (rows w n b) i [] (omega (arith, c.loop-i-test.true, length-rows w n b)) (no told (ap not c.if-not-test.true))

pub returns : goal.returns
unfolding all_lists
returns g c f t =
    let w = c.args.row_width in
    let rs = rows w c.args.row_count c.args.bytes.now in
    sym (sym (all_done (λ row. f (drop (w - 97) row)) rs c.loop-i.i (omega (arith, c.loop-i-test.false, length-rows w c.args.row_count c.args.bytes.now))) ∙ c.loop-i.invariant f t)
