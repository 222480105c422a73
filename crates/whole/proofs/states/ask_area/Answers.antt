-- `ask_area`: the two tests in their order.
use Rattle.whole.proofs.Words.{not, refl, sym, ap, ◌∙◌, arith, not-true, not-false}
use Rattle.whole.specs.States.Area.{kept}
use Rattle.whole.specs.States.Calls.{area_asked}
use Rattle.whole.proofs.StatesLaws.HoldsLaws.{holds_of}
use Rattle.whole.proofs.states.ask_area.Goals as goal

pub returns-then-not-is_whole : goal.returns-then-not-is_whole
unfolding area_asked
returns-then-not-is_whole c = rw (sym c.is_whole.ensures ∙ not-true _ (ap not c.if-not-is_whole.true)) refl

pub returns-then-not-area_holds : goal.returns-then-not-area_holds
unfolding area_asked
returns-then-not-area_holds c =
    rw (sym c.is_whole.ensures ∙ not-false _ (ap not c.if-not-is_whole.false), sym c.area_holds.ensures ∙ not-true _ (ap not c.if-not-area_holds.true)) refl

pub bounds-area-255 : goal.bounds-area-255
bounds-area-255 c =
    omega (arith, (holds_of _ c.args.area.now (sym c.area_holds.ensures ∙ not-false _ (ap not c.if-not-area_holds.false))).long)

pub returns : goal.returns
unfolding area_asked kept
returns c =
    rw (sym c.is_whole.ensures ∙ not-false _ (ap not c.if-not-is_whole.false), sym c.area_holds.ensures ∙ not-false _ (ap not c.if-not-area_holds.false)) refl
