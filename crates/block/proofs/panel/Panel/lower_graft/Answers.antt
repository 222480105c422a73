-- The known round stays where it is no higher, and a lower one is stored.
use Rattle.block.proofs.Words.{◌≡◌, refl, sym, ap, ◌∙◌, subst, ℕ, ◌+◌, ◌*◌, ◌<◌, List, length, get_or, arith, Entry, entry, part, put, State}
use lib.ListN.{length-map}
use Rattle.block.specs.Layout.{place}
use Rattle.block.specs.View.{limits_of}
use Rattle.block.specs.Becomes.{Becomes}
use Rattle.block.specs.HopSteps.{round_put}
use Rattle.block.specs.LinkSteps.{peer_at}
use Rattle.block.specs.Caches.GraftSteps.{grafts_at, peers_to, peers_with}
use Rattle.block.specs.Panels.{state}
use Rattle.block.specs.declared.head.Head.{Head}
use Rattle.block.proofs.PanelLaws.{same-state}
use Rattle.block.proofs.CachesLaws.GraftLaws.{graft-many, graft-few}
use Rattle.block.proofs.GraftsLaws.NoteLaws.{lower-goes, same-goes}
use Rattle.block.proofs.panel.Panel.lower_graft.Goals as goal
use Rattle.block.proofs.panel.Panel.lower_graft.Goals.{Start, After-graft, After-set_round}

-- the peer is one of the peers, at most 32
there : (c : Start) → c.args.j < length (grafts_at (state c.args.self.now) c.args.i).peers
there c = omega (arith, c.requires.place.within, length-map (grafts_at (state c.args.self.now) c.args.i).peers (λ (e : Entry ℕ). e.key))

known : (c : After-graft) → (get_or (grafts_at (state c.args.self.now) c.args.i).peers c.args.j (entry 0 0)).value ≡ c.graft.result.round.0
known c =
    let p = c.args.self.now in
    subst (λ (s : State). (get_or (grafts_at s c.args.i).peers c.args.j (entry 0 0)).value ≡ c.graft.result.round.0) (same-state p c.view.result c.view.ensures.head c.view.ensures.block) (ap (λ (e : Entry ℕ). e.value) c.graft.ensures.same)

pub graft-requires : goal.graft-requires
graft-requires c =
    subst (λ (s : State). (c.args.i < length s.grafted.entries) × (c.args.j < length (grafts_at s c.args.i).peers)) (sym (same-state c.args.self.now c.view.result c.view.ensures.head c.view.ensures.block))
    (c.requires.there.0, there (goal.at.graft-requires c).Start)

pub returns-then-graft-hop : goal.returns-then-graft-hop
returns-then-graft-hop c =
    let a = c.args in
    let p = a.self.now in
    let g = same-goes p.head p.block.now p.sound c.requires.grafting a.i c.requires.there.0 a.hop.link a.hop.round.0 c.requires.there.1 (omega (arith, c.well_formed)) a.j c.requires.place c.graft.result.round.0 (known (goal.at.returns-then-graft-hop c).After-graft) c.if-graft-hop.true in
    record { state = g.state; loan = refl }

pub set_round-requires : goal.set_round-requires
set_round-requires c =
    let a = c.args in
    let p = a.self.now in
    let many = graft-many p.head p.block.now p.sound a.i c.requires.there.0 in
    (omega (arith, there (goal.at.set_round-requires c).Start, many, graft-few p.head p.block.now p.sound a.i c.requires.there.0), omega (arith, c.graft_at-at.ensures.within, ap (λ (bs : List ℕ). length bs) c.view-2.ensures.block))

goes : (c : After-set_round) → let p = c.args.self.now in
    Becomes (λ s. peers_to c.args.i (peers_with c.args.i (peer_at s c.args.hop.link) c.args.hop.round.0 s) s) p.head p.block.now p.head c.set_round.new.block
goes c =
    let a = c.args in
    let p = a.self.now in
    let xs = p.block.now in
    let e = ap (λ (n : ℕ). n + 22) (c.graft_at-at.ensures.at ∙ ap (λ (h : Head). place (limits_of h.limits) 7 + 119 * a.i) c.view-2.ensures.head) in
    subst (Becomes (λ s. peers_to a.i (peers_with a.i (peer_at s a.hop.link) a.hop.round.0 s) s) p.head xs p.head)
    (sym (c.set_round.ensures ∙ (λ k. put (e k) (round_put a.j a.hop.round.0 (part (e k) 97 xs)) xs)))
    (lower-goes p.head xs p.sound c.requires.grafting a.i c.requires.there.0 a.hop.link a.hop.round.0 c.requires.there.1 (omega (arith, c.well_formed)) a.j c.requires.place c.graft.result.round.0 (known (goal.at.After-set_round c).After-graft) c.if-graft-hop.false)

pub invariant_of-self-clause-sound : goal.invariant_of-self-clause-sound
invariant_of-self-clause-sound c = (goes (goal.at.invariant_of-self-clause-sound c).After-set_round).sound

pub returns : goal.returns
returns c = record { state = (goes (goal.at.returns c).After-set_round).state; loan = refl }
