-- By what the search found.
use Rattle.block.proofs.Words.{sym, ap, ◌∙◌, subst, List, [], ◌∷◌, ◌≤◌, length, arith, id_of, Here, Between, keys, up_of, State, Hop}
use lib.ListN.{length-map}
use Rattle.protocol.specs.Control.{add_announcer}
use Rattle.block.specs.LinkSteps.{peer_at}
use Rattle.block.specs.MissingSteps.{hop}
use Rattle.block.specs.Panels.{state}
use Rattle.block.proofs.AnnounceLaws.{announcers-here, announced-here, announced-new, insert-long}
use Rattle.block.proofs.PanelLaws.{same-state}
use Rattle.block.proofs.panel.Panel.announce.Goals as goal
use Rattle.block.proofs.panel.Panel.announce.Goals.{In-Ok, In-Err}

-- where the search found the identifier, or would have
here : (c : In-Ok) → Here (keys (state c.args.self.now).missing) (id_of c.args.id) c.in-Ok.missing
here c =
    subst (λ (s : State). Here (keys s.missing) (id_of c.args.id) c.in-Ok.missing) (same-state c.args.self.now c.view.result c.view.ensures.head c.view.ensures.block) c.in-Ok.ensures

between : (c : In-Err) → Between (keys (state c.args.self.now).missing) (id_of c.args.id) c.in-Err.i
between c =
    subst (λ (s : State). Between (keys s.missing) (id_of c.args.id) c.in-Err.i) (same-state c.args.self.now c.view.result c.view.ensures.head c.view.ensures.block) c.in-Err.ensures

pub announce_again-requires : goal.announce_again-requires
announce_again-requires c =
    let s = state c.args.self.now in
    let h = here (goal.at.announce_again-requires c).In-Ok in
    let e = announcers-here s (id_of c.args.id) c.in-Ok.missing (up_of (keys s.missing) c.requires.missing) h in
    record {
      up = (c.requires.links, c.requires.missing);
      there = (omega (arith, h.within, length-map s.missing (λ x. x.key)), c.requires.link);
      room = subst (λ (hs : List Hop). length (add_announcer (hop (peer_at s c.args.link) c.args.round.0) hs) ≤ 32) e c.requires.room.hops;
    }

pub announce_new-requires : goal.announce_new-requires
announce_new-requires c =
    let s = state c.args.self.now in
    let b = between (goal.at.announce_new-requires c).In-Err in
    let hs : List Hop = hop (peer_at s c.args.link) c.args.round.0 ∷ [] in
    let e = ap (λ (z : State). length z.missing) (sym (announced-new s (id_of c.args.id) c.in-Err.i c.args.link c.args.round.0 b)) ∙ insert-long (id_of c.args.id) c.in-Err.i hs hs s.missing (up_of (keys s.missing) c.requires.missing) b in
    record { up = c.requires.missing; place = (b, c.requires.link); room = omega (arith, e, c.requires.room.rows) }

pub returns-in-Ok : goal.returns-in-Ok
returns-in-Ok c =
    let s = state c.args.self.now in
    let g = c.announce_again.ensures in
    record { state = g.state ∙ announced-here s (id_of c.args.id) c.in-Ok.missing c.args.link c.args.round.0 (up_of (keys s.missing) c.requires.missing) (here (goal.at.returns-in-Ok c).In-Ok); loan = g.loan }

pub returns-in-Err : goal.returns-in-Err
returns-in-Err c =
    let g = c.announce_new.ensures in
    record { state = g.state ∙ announced-new (state c.args.self.now) (id_of c.args.id) c.in-Err.i c.args.link c.args.round.0 (between (goal.at.returns-in-Err c).In-Err); loan = g.loan }
