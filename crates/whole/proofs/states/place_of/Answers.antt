-- `place_of`: none of the first i rows has the name.
use Rattle.std.proofs.Common.{sym, ◌∙◌, arith, rules, below_more}
use Rattle.whole.specs.States.Area.{name_at}
use Rattle.whole.proofs.states.place_of.Goals as goal

pub returns-then-load-name : goal.returns-then-load-name
unfolding name_at
returns-then-load-name c =
    let l = c.loop-i in
    record { within = omega arith; before = l.invariant.1; found = λ h. sym c.load.ensures ∙ c.if-load-name.true }

pub loop-i-preserved : goal.loop-i-preserved
unfolding name_at
loop-i-preserved c = (search rules, below_more _ _ c.loop-i.invariant.1 (λ e. c.if-load-name.false (c.load.ensures ∙ e)))
