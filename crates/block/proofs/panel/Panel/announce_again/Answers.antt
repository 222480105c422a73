-- A link that is there stays, another is added.
use Rattle.block.proofs.Words.{◌≡◌, sym, ap, ◌∙◌, refl, List, [], ◌∷◌, length, length-append, arith, any, keys, up_of, State, Hop}
use Rattle.block.specs.LinkSteps.{peer_at}
use Rattle.block.specs.MissingSteps.{hop, hops_at, hops_to, from_peer}
use Rattle.block.specs.Panels.{state}
use Rattle.block.proofs.AnnounceLaws.{added-there, added-not, hops-same}
use Rattle.block.proofs.PanelLaws.{same-state}
use Rattle.block.proofs.panel.Panel.announce_again.Goals as goal
use Rattle.block.proofs.panel.Panel.announce_again.Goals.{After-is_announcer}

-- whether the link's peer is among the announcers
there : (c : After-is_announcer) → c.is_announcer.result ≡ any (from_peer (peer_at (state c.args.self.now) c.args.by.link)) (hops_at (state c.args.self.now) c.args.missing)
there c =
    c.is_announcer.ensures ∙ ap (λ (s : State). any (from_peer (peer_at s c.args.by.link)) (hops_at s c.args.missing)) (same-state c.args.self.now c.view.result c.view.ensures.head c.view.ensures.block)

pub push_announcer-requires-clause-room : goal.push_announcer-requires-clause-room
push_announcer-requires-clause-room c =
    let s = state c.args.self.now in
    let by = c.args.by in
    let t = added-not s c.args.missing by.link by.round.0 (sym (there (goal.at.push_announcer-requires-clause-room c).After-is_announcer) ∙ c.if-not-is_announcer.true) in
    omega (arith, c.requires.room, ap length t, length-append (hops_at s c.args.missing) (hop (peer_at s by.link) by.round.0 ∷ []))

pub returns-then-not-is_announcer : goal.returns-then-not-is_announcer
returns-then-not-is_announcer c =
    let s = state c.args.self.now in
    let by = c.args.by in
    let t = added-not s c.args.missing by.link by.round.0 (sym (there (goal.at.returns-then-not-is_announcer c).After-is_announcer) ∙ c.if-not-is_announcer.true) in
    let g = c.push_announcer.ensures in
    record { state = g.state ∙ sym (ap (λ (hs : List Hop). hops_to c.args.missing hs s) t); loan = g.loan }

pub returns-else-not-is_announcer : goal.returns-else-not-is_announcer
returns-else-not-is_announcer c =
    let s = state c.args.self.now in
    let by = c.args.by in
    let t = added-there s c.args.missing by.link by.round.0 (sym (there (goal.at.returns-else-not-is_announcer c).After-is_announcer) ∙ c.if-not-is_announcer.false) in
    record { state = sym (ap (λ (hs : List Hop). hops_to c.args.missing hs s) t ∙ hops-same s c.args.missing (up_of (keys s.missing) c.requires.up.1) c.requires.there.0); loan = refl }
