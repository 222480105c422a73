-- The bytes stored are the senders of the entry.
use Rattle.block.proofs.Words.{◌≡◌, refl, sym, ap, ◌∙◌, subst, List, ◌++◌, ℕ, ◌≤◌, ◌+◌, ◌-◌, ◌*◌, arith, length, take, drop, put, loan-put}
use Rattle.std.proofs.Common.{length-drop, length-take-le}
use Rattle.block.specs.Layout.{place}
use Rattle.block.specs.View.{limits_of}
use Rattle.block.specs.Becomes.{Becomes}
use Rattle.block.specs.Caches.GraftSteps.{senders_of, senders_to}
use Rattle.block.specs.declared.head.Head.{Head}
use Rattle.block.proofs.CachesLaws.GraftWrites.{senders-goes}
use Rattle.block.proofs.panel.Panel.set_senders.Goals as goal
use Rattle.block.proofs.panel.Panel.set_senders.Goals.{After-store}

module _ (c : After-store) where
  abbrev a : ℕ
  a = c.graft_at-at.result + 2

  abbrev k : ℕ
  k = a + 20 - a

  goes : let p = c.args.self.now in Becomes (senders_to c.args.entry (senders_of c.args.senders)) p.head p.block.now p.head (take a p.block.now ++ (c.store.new.bytes ++ drop k (drop a p.block.now)))
  goes =
      let p = c.args.self.now in
      let xs = p.block.now in
      let zs = c.store.new.bytes in
      let from = c.graft_at-at.ensures.at ∙ ap (λ (h : Head). place (limits_of h.limits) 7 + 119 * c.args.entry) c.view.ensures.head in
      let at : a ≡ place (limits_of p.head.limits) 7 + (c.args.entry * 119 + 2) = omega (arith, from) in
      let within = subst (λ (bs : List ℕ). c.graft_at-at.result + 119 ≤ length bs) c.view.ensures.block c.graft_at-at.ensures.within in
      let long : length zs ≡ k = c.store.auto.bytes ∙ length-take-le k (drop a xs) (omega (arith, length-drop a xs, within)) in
      subst (Becomes (senders_to c.args.entry (senders_of c.args.senders)) p.head xs p.head) (sym (loan-put a k zs xs long ∙ ap (λ (n : ℕ). put n zs xs) at))
      (senders-goes p.head xs p.sound c.requires.0 c.args.entry c.requires.1 zs (senders_of c.args.senders) (omega (arith, long)) c.store.ensures)

pub invariant_of-self-clause-sound : goal.invariant_of-self-clause-sound
invariant_of-self-clause-sound c = (goes (goal.at.invariant_of-self-clause-sound c).After-store).sound

pub returns : goal.returns
returns c = record { state = (goes (goal.at.returns c).After-store).state; loan = refl }
