-- A new entry, and its first peer.
use Rattle.block.proofs.Words.{[], ◌∷◌, sym, ap, ◌∙◌, subst, ℕ, List, ◌+◌, ◌*◌, get_or, length, arith, entry, id_of, part, put, with_grafted}
use Rattle.time_cache.specs.TimeCache.{put as put_in}
use Rattle.block.specs.Layout.{place}
use Rattle.block.specs.View.{limits_of}
use Rattle.block.specs.Becomes.{Becomes}
use Rattle.block.specs.HopSteps.{pushed_hop}
use Rattle.block.specs.LinkSteps.{peer_at}
use Rattle.block.specs.Caches.GraftSteps.{no_grafts}
use Rattle.block.specs.declared.head.Head.{Head}
use Rattle.block.proofs.GraftsLaws.EntryLaws.{none_yet, link-in, first-goes}
use Rattle.block.proofs.panel.Panel.graft_new.Goals as goal
use Rattle.block.proofs.panel.Panel.graft_new.Goals.{After-push_hop}

pub push_hop-requires : goal.push_hop-requires
push_hop-requires c =
    let a = c.args in
    let p = a.self.now in
    let q = c.enter_graft-i.new.self in
    let r = c.enter_graft-i.ensures in
    let at = c.graft_at-at.ensures.at ∙ ap (λ (h : Head). place (limits_of h.limits) 7 + 119 * c.enter_graft-i.result) c.view.ensures.head in
    let none = ap (λ (n : ℕ). get_or q.block.now (n + 22) 0) at ∙ none_yet p.head q.head p.block.now q.block.now (id_of a.id) a.expires.0 a.hop.link a.hop.round.0 c.enter_graft-i.result q.sound c.requires.order r.goes.state r.entry c.requires.link (omega (arith, c.well_formed)) in
    let low = link-in p.head q.head p.block.now q.block.now (id_of a.id) a.expires.0 a.hop.link a.hop.round.0 c.enter_graft-i.result q.sound c.requires.order r.goes.state r.entry c.requires.link (omega (arith, c.well_formed)) in
    (omega (arith, none), omega (arith, low, q.sound.fit.within.links, q.sound.fit.ceilings.N), omega (arith, c.graft_at-at.ensures.within, ap (λ (bs : List ℕ). length bs) c.view.ensures.block))

goes : (c : After-push_hop) → let p = c.args.self.now in
    Becomes (λ s. with_grafted (put_in (id_of c.args.id) (record { first = no_grafts.first; kept = no_grafts.kept; peers = entry (peer_at s c.args.hop.link) c.args.hop.round.0 ∷ [] }) c.args.expires.0 s.grafted) s)
    p.head p.block.now c.enter_graft-i.new.self.head c.push_hop.new.block
goes c =
    let a = c.args in
    let p = a.self.now in
    let q = c.enter_graft-i.new.self in
    let r = c.enter_graft-i.ensures in
    let e = ap (λ (n : ℕ). n + 22) (c.graft_at-at.ensures.at ∙ ap (λ (h : Head). place (limits_of h.limits) 7 + 119 * c.enter_graft-i.result) c.view.ensures.head) in
    subst (Becomes (λ s. with_grafted (put_in (id_of a.id) (record { first = no_grafts.first; kept = no_grafts.kept; peers = entry (peer_at s a.hop.link) a.hop.round.0 ∷ [] }) a.expires.0 s.grafted) s) p.head p.block.now q.head)
    (sym (c.push_hop.ensures ∙ (λ k. put (e k) (pushed_hop a.hop.link a.hop.round.0 (part (e k) 97 q.block.now)) q.block.now)))
    (first-goes p.head q.head p.block.now q.block.now (id_of a.id) a.expires.0 a.hop.link a.hop.round.0 c.enter_graft-i.result q.sound c.requires.order r.goes.state r.entry c.requires.link (omega (arith, c.well_formed)))

pub invariant_of-self-clause-sound : goal.invariant_of-self-clause-sound
invariant_of-self-clause-sound c = (goes c).sound

pub returns : goal.returns
returns c = record { state = (goes (goal.at.returns c).After-push_hop).state; loan = c.enter_graft-i.ensures.goes.loan }
