-- The put is an announcer more.
use Rattle.block.proofs.Words.{sym, ap, ◌∙◌, subst, List, ℕ, get_or, ◌+◌, ◌*◌, arith, refl, part, put}
use Rattle.block.specs.Layout.{place}
use Rattle.block.specs.View.{limits_of}
use Rattle.block.specs.declared.head.Head.{Head}
use Rattle.block.specs.Becomes.{Becomes}
use Rattle.block.specs.HopSteps.{pushed_hop}
use Rattle.block.specs.MissingSteps.{announced_at}
use Rattle.block.proofs.LinkLaws.{count-links}
use Rattle.block.proofs.MissingLaws.{missing-below, list-within, missed-count, push_goes}
use Rattle.block.proofs.panel.Panel.push_announcer.Goals as goal
use Rattle.block.proofs.panel.Panel.push_announcer.Goals.{After-push_hop}

pub push_hop-requires : goal.push_hop-requires
push_hop-requires c =
    let p = c.args.self.now in
    let i = c.args.missing in
    let q = missing-below p.head p.block.now i c.requires.there.0 in
    let at = ap (λ (n : ℕ). get_or p.block.now n 0) (c.announcers_at-at.ensures ∙ ap (λ (h : Head). place (limits_of h.limits) 9 + 129 * c.args.missing + 32) c.view.ensures.head) in (
      omega (arith, missed-count p.head p.block.now p.sound i q, at, c.requires.room),
      omega (arith, c.requires.there.1, count-links p.head p.block.now, p.sound.fit.within.links, p.sound.fit.ceilings.N),
      omega (arith, list-within p.head p.block.now p.sound i q, (c.announcers_at-at.ensures ∙ ap (λ (h : Head). place (limits_of h.limits) 9 + 129 * c.args.missing + 32) c.view.ensures.head)),
    )

goes : (c : After-push_hop) → let p = c.args.self.now in
    Becomes (announced_at c.args.missing c.args.by.link c.args.by.round.0) p.head p.block.now p.head c.push_hop.new.block
goes c =
    let p = c.args.self.now in
    let i = c.args.missing in
    let by = c.args.by in
    let e = (c.announcers_at-at.ensures ∙ ap (λ (h : Head). place (limits_of h.limits) 9 + 129 * c.args.missing + 32) c.view.ensures.head) in
    subst (λ (ys : List ℕ). Becomes (announced_at i by.link by.round.0) p.head p.block.now p.head ys)
    (sym (c.push_hop.ensures ∙ (λ k. put (e k) (pushed_hop by.link by.round.0 (part (e k) 97 p.block.now)) p.block.now)))
    (push_goes p.head p.block.now p.sound i (missing-below p.head p.block.now i c.requires.there.0) by.link by.round.0 c.requires.there.1 (omega (arith, c.well_formed)) c.requires.room c.requires.up)

pub invariant_of-self-clause-sound : goal.invariant_of-self-clause-sound
invariant_of-self-clause-sound c = (goes (goal.at.invariant_of-self-clause-sound c).After-push_hop).sound

pub returns : goal.returns
returns c = record { state = (goes (goal.at.returns c).After-push_hop).state; loan = refl }
