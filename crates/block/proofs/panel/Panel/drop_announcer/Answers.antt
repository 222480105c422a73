-- The put is the first announcer less.
use Rattle.block.proofs.Words.{sym, ap, ◌∙◌, subst, List, ℕ, get_or, ◌+◌, ◌*◌, arith, refl, part, put}
use Rattle.block.specs.Layout.{place}
use Rattle.block.specs.View.{limits_of}
use Rattle.block.specs.declared.head.Head.{Head}
use Rattle.block.specs.Becomes.{Becomes}
use Rattle.block.specs.HopSteps.{shifted_hops}
use Rattle.block.specs.MissingSteps.{left_at}
use Rattle.block.proofs.MissingLaws.{missing-below, list-within, missed-count, shift-goes}
use Rattle.block.proofs.panel.Panel.drop_announcer.Goals as goal
use Rattle.block.proofs.panel.Panel.drop_announcer.Goals.{After-drop_hop}

pub drop_hop-requires : goal.drop_hop-requires
drop_hop-requires c =
    let p = c.args.self.now in
    let i = c.args.missing in
    let q = missing-below p.head p.block.now i c.requires.announced.0 in
    let at = ap (λ (n : ℕ). get_or p.block.now n 0) (c.announcers_at-at.ensures ∙ ap (λ (h : Head). place (limits_of h.limits) 9 + 129 * c.args.missing + 32) c.view.ensures.head) in
    (omega (arith, missed-count p.head p.block.now p.sound i q, at, c.requires.announced.1), omega (arith, list-within p.head p.block.now p.sound i q, (c.announcers_at-at.ensures ∙ ap (λ (h : Head). place (limits_of h.limits) 9 + 129 * c.args.missing + 32) c.view.ensures.head)))

goes : (c : After-drop_hop) → let p = c.args.self.now in Becomes (left_at c.args.missing) p.head p.block.now p.head c.drop_hop.new.block
goes c =
    let p = c.args.self.now in
    let i = c.args.missing in
    let e = (c.announcers_at-at.ensures ∙ ap (λ (h : Head). place (limits_of h.limits) 9 + 129 * c.args.missing + 32) c.view.ensures.head) in
    subst (λ (ys : List ℕ). Becomes (left_at i) p.head p.block.now p.head ys)
    (sym (c.drop_hop.ensures ∙ (λ k. put (e k) (shifted_hops (part (e k) 97 p.block.now)) p.block.now)))
    (shift-goes p.head p.block.now p.sound i (missing-below p.head p.block.now i c.requires.announced.0) c.requires.announced.1 c.requires.up)

pub invariant_of-self-clause-sound : goal.invariant_of-self-clause-sound
invariant_of-self-clause-sound c = (goes (goal.at.invariant_of-self-clause-sound c).After-drop_hop).sound

pub returns : goal.returns
returns c = record { state = (goes (goal.at.returns c).After-drop_hop).state; loan = refl }
