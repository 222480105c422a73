-- `zero_words`: no byte from `from` to i is other than 0. The measure is what is left.
use Rattle.std.proofs.Common.{sym, ◌∙◌, arith}
use Rattle.whole.proofs.StatesLaws.Leaves.{zeros-word}
use Rattle.whole.proofs.states.zero_words.Goals as goal

pub loop-i-preserved : goal.loop-i-preserved
loop-i-preserved c =
    (omega arith, omega arith, zeros-word _ _ c.args.area.now c.loop-i.invariant.2 (sym c.load.ensures ∙ c.if-load-ne0.false))
