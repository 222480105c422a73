-- The row stored is a mark anew.
use Rattle.block.proofs.Words.{refl, sym, ap, ◌∙◌, [], ◌∷◌, ℕ, arith, rules, put, entry, State}
use Rattle.storage.specs.Tables.Listed.{listed}
use Rattle.block.specs.View.{link_of}
use Rattle.block.specs.Becomes.{Becomes}
use Rattle.block.specs.LinkSteps.{mark_value, mark_at, peer_at}
use Rattle.block.specs.Views.{shown}
use Rattle.block.specs.declared.links.NumberedLink.{NumberedLink}
use Rattle.block.proofs.Lent.{lent_at, given_back}
use Rattle.block.proofs.LinkLaws.{count-links, mark-goes}
use Rattle.block.proofs.PanelLaws.{link-key, same-state}
use Rattle.block.proofs.panel.Panel.put_mark.Goals as goal
use Rattle.block.proofs.panel.Panel.put_mark.Goals.{After-store}

pub store-requires : goal.store-requires
store-requires c = let p = c.args.self.now in (omega (arith, c.requires.1, count-links p.head p.block.now), search rules)

goes : (c : After-store) → let p = c.args.self.now in
    Becomes (mark_at c.args.link (mark_value c.args.mark)) p.head p.block.now p.head (given_back c.span.result p.block.now c.store.new.bytes)
goes c =
    let p = c.args.self.now in
    let i = c.args.link in
    let m = mark_value c.args.mark in
    let peer = ap (λ (l : NumberedLink). l.peer) c.link-peer.ensures
    ∙ sym (link-key (shown c.view.result) i)
    ∙ ap (λ (s : State). peer_at s i) (same-state p c.view.result c.view.ensures.head c.view.ensures.block) in
    mark-goes p.head p.block.now c.span.result (c.span.ensures _ p.laid_out) i m c.store.new.bytes p.sound c.requires.0 (omega (arith, c.requires.1, count-links p.head p.block.now)) c.store.auto.bytes
    (c.store.ensures ∙ ap (λ (k : ℕ). put i (entry k m ∷ []) (listed 16 link_of p.head.live.links (lent_at c.span.result p.block.now))) peer)

pub invariant_of-self-clause-sound : goal.invariant_of-self-clause-sound
invariant_of-self-clause-sound c = (goes (goal.at.invariant_of-self-clause-sound c).After-store).sound

pub returns : goal.returns
returns c = record { state = (goes (goal.at.returns c).After-store).state; loan = refl }
