-- The peers before j are below the peer of the link, since links ascend by their peers.
use Rattle.block.proofs.Words.{◌≡◌, sym, ap, ◌∙◌, ℕ, ◌<◌, length, get_or, arith, Map, Entry, keys, up_of, Mark, State}
use lib.ListN.{length-map}
use Rattle.block.specs.LinkSteps.{peer_at}
use Rattle.block.specs.Views.{shown}
use Rattle.block.specs.Caches.GraftSteps.{grafts_at}
use Rattle.block.proofs.Scans.{scan-more, scan-above, scan-end}
use Rattle.block.proofs.GraftsLaws.PeerLaws.{peers-up, key-at}
use Rattle.block.proofs.panel.View.find_graft.Goals as goal
use Rattle.block.proofs.panel.View.find_graft.Goals.{After-graft-graft}

-- the peer that was read
module _ (d : After-graft-graft) where
  abbrev st : State
  st = shown d.args.self.now

  abbrev ps : Map ℕ
  ps = (grafts_at st d.args.entry).peers

  abbrev p : ℕ
  p = peer_at st d.args.link

  abbrev j : ℕ
  j = d.loop-j.j

  abbrev x : ℕ
  x = peer_at st d.graft-graft.result.link

  here : j < length ps
  here = omega (arith, d.graft_count-n.ensures.0, d.loop-j-test.true)

  who : x ≡ get_or (keys ps) j 0
  who = sym (key-at st d.requires.0 d.args.entry d.requires.1 j ∙ ap (λ (e : Entry ℕ). e.key) d.graft-graft.ensures.same)

  links-above : (a b : ℕ) → a < b → b < length st.links → peer_at st a < peer_at st b
  links-above a b h g = (up_of (keys st.links) d.requires.0.links_up).up a b h (omega (arith, length-map st.links (λ (e : Entry Mark). e.key)))

pub returns-then-link-graft : goal.returns-then-link-graft
returns-then-link-graft c =
    let d = (goal.at.returns-then-link-graft c).After-graft-graft in
    scan-above (keys (ps d)) (p d) (j d) (x d) (peers-up (st d) c.requires.0 c.args.entry c.requires.1) (omega (arith, here d, length-map (ps d) (λ (e : Entry ℕ). e.key))) c.loop-j.invariant (who d)
    (links-above d c.args.link c.graft-graft.result.link c.if-link-graft.true c.graft-graft.ensures.below)

pub loop-j-preserved : goal.loop-j-preserved
loop-j-preserved c =
    let d = (goal.at.loop-j-preserved c).After-graft-graft in
    scan-more (keys (ps d)) (p d) (j d) (x d) c.loop-j.invariant (who d) (links-above d c.graft-graft.result.link c.args.link (omega (arith, c.if-link-graft.false, c.if-graft-link.false)) c.requires.2)

pub returns : goal.returns
returns c =
    let st = shown c.args.self.now in
    let ps = (grafts_at st c.args.entry).peers in
    let n = c.graft_count-n.result in
    let k = length-map ps (λ (e : Entry ℕ). e.key) in
    scan-end (keys ps) (peer_at st c.args.link) n (omega (arith, k, c.graft_count-n.ensures.0)) (omega (arith, k, c.graft_count-n.ensures.0)) (λ j below. c.loop-j.invariant j (omega (arith, below, c.loop-j-test.false)))
