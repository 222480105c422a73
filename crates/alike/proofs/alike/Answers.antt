-- `alike`: both blocks whole, then their states.
use Rattle.alike.proofs.Words.{◌≡◌, true, false, List, ℕ, Option, not, sym, ap, ◌∙◌, subst, length, no, yes, State, likeness, not_whole, alike, LinksAscend}
use Rattle.block.specs.View.{state_of}
use Rattle.block.specs.declared.head.Head.{Head}
use Rattle.protocol.specs.Whole.{whole_state}
use Rattle.protocol.specs.Alike.{likeness_of, alike_blocks}
use Rattle.block.specs.Sound.{Sound}
use Rattle.block.specs.Header.{head_in}
use Rattle.whole.specs.Held.{held, whole_block}
use Rattle.whole.proofs.HeldLaws.{wholly_of}
use Rattle.whole.proofs.WholeLaws.{no_limits}
use Rattle.alike.proofs.Answers.{not-whole, links-ascend, whole-state, second-not}
use Rattle.alike.proofs.alike.Goals as goal

-- the header that is loaded is sound
sound-of : (a : List ℕ) (h : Head) → h ≡ head_in a → whole_block a ≡ true → Sound h a
sound-of a h e w = subst (λ (g : Head). Sound g a) (sym e) (wholly_of a w).sound

-- nothing where either block is not whole
first-not : (a b : List ℕ) → whole_block a ≡ false → not_whole ≡ alike_blocks (length a) (held a) (length b) (held b)
unfolding alike_blocks likeness_of
first-not a b w = sym (ap (λ (o : Option State). likeness_of o (whole_state (length b) (held b))) (not-whole a w))

later-not : (a b : List ℕ) → whole_block b ≡ false → not_whole ≡ alike_blocks (length a) (held a) (length b) (held b)
unfolding alike_blocks
later-not a b w = sym (ap (likeness_of (whole_state (length a) (held a))) (not-whole b w) ∙ second-not (whole_state (length a) (held a)))

pub returns-then-not-has_limits : goal.returns-then-not-has_limits
returns-then-not-has_limits c = first-not c.args.a.now c.args.b.now (no_limits c.args.a.now (no c.has_limits.ensures (ap not c.if-not-has_limits.true)))

pub returns-then-not-has_limits-2 : goal.returns-then-not-has_limits-2
returns-then-not-has_limits-2 c = later-not c.args.a.now c.args.b.now (no_limits c.args.b.now (no c.has_limits-2.ensures (ap not c.if-not-has_limits-2.true)))

pub returns-then-not-is_whole_of : goal.returns-then-not-is_whole_of
returns-then-not-is_whole_of c = first-not c.args.a.now c.args.b.now (no c.is_whole_of.ensures (ap not c.if-not-is_whole_of.true))

pub returns-then-not-is_whole_of-2 : goal.returns-then-not-is_whole_of-2
returns-then-not-is_whole_of-2 c = later-not c.args.a.now c.args.b.now (no c.is_whole_of-2.ensures (ap not c.if-not-is_whole_of-2.true))

pub invariant_of-x-clause-sound : goal.invariant_of-x-clause-sound
invariant_of-x-clause-sound c = sound-of c.args.a.now c.open-opened_a.result.head c.open-opened_a.ensures.head (yes c.is_whole_of.ensures (ap not c.if-not-is_whole_of.false))

pub invariant_of-y-clause-sound : goal.invariant_of-y-clause-sound
invariant_of-y-clause-sound c = sound-of c.args.b.now c.open-opened_b.result.head c.open-opened_b.ensures.head (yes c.is_whole_of-2.ensures (ap not c.if-not-is_whole_of-2.false))

pub same_states-requires : goal.same_states-requires
same_states-requires c =
    let a = c.args.a.now in
    let b = c.args.b.now in (
      subst (λ (h : Head). LinksAscend h a) (sym c.open-opened_a.ensures.head) (links-ascend a (wholly_of a (yes c.is_whole_of.ensures (ap not c.if-not-is_whole_of.false)))),
      subst (λ (h : Head). LinksAscend h b) (sym c.open-opened_b.ensures.head) (links-ascend b (wholly_of b (yes c.is_whole_of-2.ensures (ap not c.if-not-is_whole_of-2.false)))),
    )

pub returns : goal.returns
unfolding alike_blocks likeness_of
returns c =
    let a = c.args.a.now in
    let b = c.args.b.now in
    let wa = wholly_of a (yes c.is_whole_of.ensures (ap not c.if-not-is_whole_of.false)) in
    let wb = wholly_of b (yes c.is_whole_of-2.ensures (ap not c.if-not-is_whole_of-2.false)) in
    let same = c.same_states.ensures ∙ (λ k. alike (state_of (c.open-opened_a.ensures.head k) a) (state_of (c.open-opened_b.ensures.head k) b)) in
    sym ((λ k. likeness_of (whole-state a wa k) (whole-state b wb k)) ∙ ap likeness (sym same))
