-- `area_holds`: each test is a part of question 17 (`Holds`).
use Rattle.whole.proofs.Words.{ap, not, sym, List, ℕ, ◌+◌, ◌*◌, arith, length, get_or, not-true, not-false}
use Rattle.whole.specs.States.Area.{kept, area_holds}
use Rattle.whole.specs.States.Calls.{Zeros, SlotsHold}
use Rattle.whole.proofs.StatesLaws.Leaves.{told-yes, told-no, told_same}
use Rattle.whole.proofs.StatesLaws.HoldsLaws.{of-holds, holds_not}
use Rattle.whole.proofs.states.area_holds.Goals as goal

pub returns-then-area-lt-FRONT : goal.returns-then-area-lt-FRONT
returns-then-area-lt-FRONT c = sym (holds_not c.args.n c.args.area.now (λ h. omega (arith, h.long)))

pub returns-then-area-n : goal.returns-then-area-n
returns-then-area-n c = sym (holds_not c.args.n c.args.area.now (λ h. omega (arith, h.long)))

pub returns-then-kept-gt-STATES : goal.returns-then-kept-gt-STATES
unfolding kept
returns-then-kept-gt-STATES c = sym (holds_not c.args.n c.args.area.now (λ h. omega (arith, h.few)))

pub returns-then-not-slots_hold : goal.returns-then-not-slots_hold
unfolding kept
returns-then-not-slots_hold c =
    let k : ℕ = get_or c.args.area.now 255 0 in
    sym (holds_not c.args.n c.args.area.now (λ h. told-no (SlotsHold c.args.n k c.args.area.now) c.slots_hold.result c.slots_hold.ensures (not-true _ (ap not c.if-not-slots_hold.true)) h.slots))

pub returns-then-not-zeros : goal.returns-then-not-zeros
unfolding kept
returns-then-not-zeros c =
    let k : ℕ = get_or c.args.area.now 255 0 in
    sym (holds_not c.args.n c.args.area.now (λ h. told-no (Zeros (26 * k) 255 c.args.area.now) c.zeros.result c.zeros.ensures (not-true _ (ap not c.if-not-zeros.true)) h.spare))

pub returns : goal.returns
unfolding kept
returns c =
    let n : ℕ = c.args.n in
    let area : List ℕ = c.args.area.now in
    let k : ℕ = get_or area 255 0 in
    told_same (Zeros (256 + n * k) (length area) area) (area_holds n area) c.zeros-2.result c.zeros-2.ensures
    (λ z. of-holds n area (λ i. omega (arith, c.shared_slice_known-1.given i)) (record {
      long = omega arith;
      few = omega arith;
      slots = told-yes (SlotsHold n k area) c.slots_hold.result c.slots_hold.ensures (not-false _ (ap not c.if-not-slots_hold.false));
      spare = told-yes (Zeros (26 * k) 255 area) c.zeros.result c.zeros.ensures (not-false _ (ap not c.if-not-zeros.false));
      rest = z;
    }))
    (λ z. holds_not n area (λ h. z h.rest))
