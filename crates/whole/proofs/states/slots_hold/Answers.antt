-- `slots_hold`: the first i names differ, and the first i blocks are whole.
use Rattle.whole.proofs.Words.{not, ◌≡◌, sym, ap, ◌∙◌, ℕ, ◌+◌, ◌*◌, ◌-◌, arith, rules, take, drop, not-true, not-false, true≢}
use Rattle.storage.specs.Rows.Part.{part}
use Rattle.whole.specs.Held.{whole_block}
use Rattle.whole.specs.States.Area.{name_at}
use Rattle.whole.proofs.StatesLaws.Leaves.{slots-more}
use Rattle.whole.proofs.states.slots_hold.Goals as goal
use Rattle.whole.proofs.states.slots_hold.Goals.{After-is_whole}

-- the slot that was asked is the part
read : (c : After-is_whole) → c.is_whole.result ≡ whole_block (part (256 + c.args.n * c.loop-i.i) c.args.n c.args.area.now)
unfolding part
read c =
    let from : ℕ = 256 + c.args.n * c.loop-i.i in
    let e : from + c.args.n - from ≡ c.args.n = omega arith in
    c.is_whole.ensures ∙ ap (λ (m : ℕ). whole_block (take m (drop from c.args.area.now))) e

pub returns-then-place_of-i : goal.returns-then-place_of-i
unfolding name_at
returns-then-place_of-i c = λ h. h.names _ _ c.if-place_of-i.true (omega arith) (c.place_of.ensures.found c.if-place_of-i.true ∙ c.load-name.ensures)

pub returns-then-not-is_whole : goal.returns-then-not-is_whole
returns-then-not-is_whole c = λ h.
    true≢ (sym (not-true _ (ap not c.if-not-is_whole.true)) ∙ read (goal.at.returns-then-not-is_whole c).After-is_whole ∙ h.wholes c.loop-i.i (omega arith))

pub loop-i-preserved : goal.loop-i-preserved
unfolding name_at
loop-i-preserved c = (
  search rules,
  slots-more c.args.n c.loop-i.i c.args.area.now c.loop-i.invariant.1
      (λ j h e. c.place_of.ensures.before j (omega (arith, c.if-place_of-i.false)) (e ∙ sym c.load-name.ensures))
      (sym (read (goal.at.loop-i-preserved c).After-is_whole) ∙ not-false _ (ap not c.if-not-is_whole.false)),
)
