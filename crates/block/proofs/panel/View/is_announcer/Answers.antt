-- No announcer passed is of the link.
use Rattle.block.proofs.Words.{◌≡◌, refl, sym, ap, ◌∙◌, true, false, ℕ, ◌<◌, eq-eqb, ne_eqb, eqb, length, get_or, arith, keys, up_of, State, Hop}
use lib.ListN.{length-map}
use Rattle.storage.specs.Lists.Base.{any}
use Rattle.block.specs.LinkSteps.{peer_at}
use Rattle.block.specs.MissingSteps.{hop, hops_at, from_peer}
use Rattle.block.specs.Views.{shown}
use Rattle.block.proofs.Scans.{keys-apart, any_found, any-drop}
use Rattle.block.proofs.panel.View.is_announcer.Goals as goal
use Rattle.block.proofs.panel.View.is_announcer.Goals.{After-announcer}

pub loop-number-init : goal.loop-number-init
unfolding any
loop-number-init c = refl

-- the announcer that was read, and the test of it
module _ (d : After-announcer) where
  abbrev s : State
  s = shown d.args.self.now

  abbrev j : ℕ
  j = d.loop-number.number

  abbrev x : Hop
  x = get_or (hops_at s d.args.missing) j (hop 0 0)

  here : j < length (hops_at s d.args.missing)
  here = omega (arith, d.announcer_count-number-end.ensures.0, d.loop-number-test.true)

  who : x.peer ≡ peer_at s d.announcer.result.link
  who = ap (λ (y : Hop). y.peer) d.announcer.ensures.same

  is-from : d.announcer.result.link ≡ d.args.link → eqb x.peer (peer_at s d.args.link) ≡ true
  is-from t = eq-eqb x.peer (peer_at s d.args.link) (who ∙ ap (peer_at s) t)

  is-not : (d.announcer.result.link ≡ d.args.link → ⊥) → eqb x.peer (peer_at s d.args.link) ≡ false
  is-not t =
      let k : length (keys s.links) ≡ length s.links = length-map s.links (λ e. e.key) in
      let r : d.announcer.result.link < length s.links = d.announcer.ensures.below in
      ne_eqb x.peer (peer_at s d.args.link) (λ z. keys-apart (keys s.links) d.announcer.result.link d.args.link (up_of (keys s.links) d.requires.0) (omega arith) (omega (arith, d.requires.2)) t (sym who ∙ z))

pub returns-then-announcer-link : goal.returns-then-announcer-link
returns-then-announcer-link c =
    let d = (goal.at.returns-then-announcer-link c).After-announcer in
    sym (any_found (from_peer (peer_at (s d) c.args.link)) (j d) (hop 0 0) (hops_at (s d) c.args.missing) (here d) (is-from d c.if-announcer-link.true))

pub loop-number-preserved : goal.loop-number-preserved
loop-number-preserved c =
    let d = (goal.at.loop-number-preserved c).After-announcer in
    any-drop (from_peer (peer_at (s d) c.args.link)) (j d) (hop 0 0) (hops_at (s d) c.args.missing) (here d) (is-not d c.if-announcer-link.false) ∙ c.loop-number.invariant
