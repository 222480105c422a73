-- `announce_again`: after i entries those of the first i that were missing have the peer among their announcers.
use Rattle.announcements.proofs.Words.{◌≡◌, ◌<◌, refl, sym, ap, ◌∙◌, subst, Bool, true, false, not, arith, length, take, get_or, has, State, state, peer_at, is_neighbour, id_of, links-few}
use lib.ListN.{length-map}
use Rattle.protocol.specs.Consistent.{Consistent}
use Rattle.block.specs.MissingSteps.{hop, announced_by}
use Rattle.block.proofs.MissingLaws.{count-missing}
use Rattle.announcements.specs.OnIhave.{entry_value, entries_value}
use Rattle.announcements.proofs.OnIhaveLaws.{missing-limit}
use Rattle.announcements.proofs.IhavesLaws.HeardLaws.{few-announcers, announced-consistent, link_near}
use Rattle.announcements.proofs.IhavesLaws.Ordered.{nothing, value-more}
use Rattle.announcements.proofs.IhavesLaws.StateLaws.{again, again-start, again-skip, again-next, again-there, same-room}
use Rattle.announcements.proofs.on_ihave.announce_again.Goals as goal
use Rattle.announcements.proofs.on_ihave.announce_again.Goals.{then-not-entry, else-not-entry}

pub loop-entry-init : goal.loop-entry-init
loop-entry-init c = record {
  goes = record { state = again-start c.args.link (state c.args.panel.now); loan = refl };
  consistent = c.requires.allowed.0.rest.consistent;
}

-- what the flag says of the table
turned : (a b c : Bool) → a ≡ not b → a ≡ c → b ≡ not c
turned a b c e f = sym (not-not b) ∙ ap not (sym e ∙ f)
  where
    not-not : (b : Bool) → not (not b) ≡ b
    not-not true = refl
    not-not false = refl

pub announce-requires : goal.announce-requires
announce-requires c =
    let p = c.loop-entry.panel in
    let s = state c.args.panel.now in
    let u = state p in
    let es = c.args.decision.now.entries.now in
    let e = get_or es c.loop-entry.entry-index nothing in
    let i = id_of e.id in
    let xs = entries_value (take c.loop-entry.entry-index es) in
    let so : u ≡ again c.args.link xs s = c.loop-entry.invariant.goes.state in
    let x : Consistent u = c.loop-entry.invariant.consistent in
    let adds = c.requires.decided.adds c.loop-entry.entry-index nothing c.loop-entry-test.true in
    let there : has i s.missing ≡ true = turned e.adds_missing (has i s.missing) false adds.missing c.if-not-entry.true in
    let still : has i u.missing ≡ true = ap (λ (t : State). has i t.missing) so ∙ again-there c.args.link xs (entry_value e) s there in
    let w : c.args.link < length u.links = omega (arith, c.requires.allowed.1, ap (λ (t : State). length t.links) so) in
    let near : is_neighbour (peer_at u c.args.link) u.links ≡ true = link_near u c.args.link x.core.links_up (omega (arith, w, length-map u.links (λ y. y.key))) in
    record {
      links = x.core.links_up;
      missing = x.core.missing_up;
      link = w;
      room = record {
        rows = omega (arith, same-room i c.args.link e.round.0 u x.core.missing_up still, count-missing p.head p.block.now, missing-limit p.head p.block.now, p.sound.fit.within.missing);
        hops = omega (arith, few-announcers i (hop (peer_at u c.args.link) e.round.0) u x near, links-few p.head p.block.now p.sound);
      };
    }

pub loop-entry-preserved : goal.loop-entry-preserved
loop-entry-preserved c =
    let p = c.loop-entry.panel in
    let s = state c.args.panel.now in
    let u = state p in
    let es = c.args.decision.now.entries.now in
    let e = get_or es c.loop-entry.entry-index nothing in
    let i = id_of e.id in
    let xs = entries_value (take c.loop-entry.entry-index es) in
    let so : u ≡ again c.args.link xs s = c.loop-entry.invariant.goes.state in
    let x : Consistent u = c.loop-entry.invariant.consistent in
    let adds = c.requires.decided.adds c.loop-entry.entry-index nothing c.loop-entry-test.true in
    let more = value-more es c.loop-entry.entry-index c.loop-entry-test.true in
    let w : c.args.link < length u.links = omega (arith, c.requires.allowed.1, ap (λ (t : State). length t.links) so) in
    let near : is_neighbour (peer_at u c.args.link) u.links ≡ true = link_near u c.args.link x.core.links_up (omega (arith, w, length-map u.links (λ y. y.key))) in
    elim c.if-not-entry.branch [
      | then-not-entry v ↦
          let there : has i s.missing ≡ true = turned e.adds_missing (has i s.missing) false adds.missing v.if-not-entry.true in
          rw v.panel-is (record {
            goes = record {
              state = v.announce.ensures.state
                  ∙ ap (announced_by i c.args.link e.round.0) so
                  ∙ again-next c.args.link xs (entry_value e) s there
                  ∙ ap (λ ys. again c.args.link ys s) (sym more);
              loan = v.announce.ensures.loan ∙ c.loop-entry.invariant.goes.loan;
            };
            consistent = subst (λ (t : State). Consistent t) (sym v.announce.ensures.state) (announced-consistent i (hop (peer_at u c.args.link) e.round.0) u x near);
          })
      | else-not-entry v ↦
          let there : has i s.missing ≡ false = turned e.adds_missing (has i s.missing) true adds.missing v.if-not-entry.false in
          rw v.panel-is (record {
            goes = record {
              state = so ∙ again-skip c.args.link xs (entry_value e) s there ∙ ap (λ ys. again c.args.link ys s) (sym more);
              loan = c.loop-entry.invariant.goes.loan;
            };
            consistent = x;
          })
    ]
