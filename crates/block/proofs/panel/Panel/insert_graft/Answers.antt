-- A peer more, at its place.
use Rattle.block.proofs.Words.{refl, sym, ap, ◌∙◌, subst, ℕ, ◌+◌, ◌*◌, ◌≤◌, List, length, get_or, arith, Entry, part, put}
use lib.ListN.{length-map}
use Rattle.block.specs.Layout.{place}
use Rattle.block.specs.View.{limits_of}
use Rattle.block.specs.Becomes.{Becomes}
use Rattle.block.specs.HopSteps.{inserted_hop}
use Rattle.block.specs.LinkSteps.{peer_at}
use Rattle.block.specs.Caches.GraftSteps.{grafts_at, peers_to, peers_with}
use Rattle.block.specs.Panels.{state}
use Rattle.block.specs.declared.head.Head.{Head}
use Rattle.block.proofs.LinkLaws.{count-links}
use Rattle.block.proofs.CachesLaws.GraftLaws.{graft-many}
use Rattle.block.proofs.GraftsLaws.PeerLaws.{peers-few}
use Rattle.block.proofs.GraftsLaws.NoteLaws.{insert-goes}
use Rattle.block.proofs.panel.Panel.insert_graft.Goals as goal
use Rattle.block.proofs.panel.Panel.insert_graft.Goals.{After-insert_hop}

pub insert_hop-requires : goal.insert_hop-requires
insert_hop-requires c =
    let a = c.args in
    let p = a.self.now in
    let s = state p in
    let at = c.graft_at-at.ensures.at ∙ ap (λ (h : Head). place (limits_of h.limits) 7 + 119 * a.i) c.view.ensures.head in
    let many = ap (λ (n : ℕ). get_or p.block.now (n + 22) 0) at ∙ graft-many p.head p.block.now p.sound a.i c.requires.there.0 in
    let links = count-links p.head p.block.now in
    let few : length s.links ≤ 32 = omega (arith, links, p.sound.fit.within.links, p.sound.fit.ceilings.N) in (
      omega (arith, many, length-map (grafts_at s a.i).peers (λ (y : Entry ℕ). y.key), c.requires.place.within),
      omega (arith, many, peers-few s c.requires.grafting a.i c.requires.there.0 a.hop.link a.j few c.requires.there.1 c.requires.place),
      omega (arith, c.requires.there.1, links, p.sound.fit.within.links, p.sound.fit.ceilings.N),
      omega (arith, c.graft_at-at.ensures.within, ap (λ (bs : List ℕ). length bs) c.view.ensures.block),
    )

goes : (c : After-insert_hop) → let p = c.args.self.now in
    Becomes (λ s. peers_to c.args.i (peers_with c.args.i (peer_at s c.args.hop.link) c.args.hop.round.0 s) s) p.head p.block.now p.head c.insert_hop.new.block
goes c =
    let a = c.args in
    let p = a.self.now in
    let xs = p.block.now in
    let e = ap (λ (n : ℕ). n + 22) (c.graft_at-at.ensures.at ∙ ap (λ (h : Head). place (limits_of h.limits) 7 + 119 * a.i) c.view.ensures.head) in
    subst (Becomes (λ s. peers_to a.i (peers_with a.i (peer_at s a.hop.link) a.hop.round.0 s) s) p.head xs p.head)
    (sym (c.insert_hop.ensures ∙ (λ k. put (e k) (inserted_hop a.j a.hop.link a.hop.round.0 (part (e k) 97 xs)) xs)))
    (insert-goes p.head xs p.sound c.requires.grafting a.i c.requires.there.0 a.hop.link a.hop.round.0 c.requires.there.1 (omega (arith, c.well_formed)) a.j c.requires.place)

pub invariant_of-self-clause-sound : goal.invariant_of-self-clause-sound
invariant_of-self-clause-sound c = (goes (goal.at.invariant_of-self-clause-sound c).After-insert_hop).sound

pub returns : goal.returns
returns c = record { state = (goes (goal.at.returns c).After-insert_hop).state; loan = refl }
