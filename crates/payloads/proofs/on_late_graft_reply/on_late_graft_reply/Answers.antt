-- `on_late_graft_reply` meets its contract: by what the copy is.
use Rattle.payloads.proofs.Words.{◌≡◌, ◌<◌, ◌∙◌, ap, refl, sym, true, length, ascending, keys, Links, add_lazy, State, peer_at, linked, state}
use Rattle.std.proofs.Common.{subst}
use Rattle.payloads.specs.OnLateGraftReply.{LateHeld}
use Rattle.payloads.proofs.OnLateGraftReplyLaws.{kept-links, after-duplicate, after-repeated, after-faster}
use Rattle.payloads.proofs.on_late_graft_reply.on_late_graft_reply.Goals as goal
use Rattle.payloads.proofs.on_late_graft_reply.on_late_graft_reply.Goals.{After-keep_sender}

-- the links once the sender is kept
links-then : (c : After-keep_sender) → (state c.keep_sender.new.panel).links ≡ (state c.args.panel.now).links
links-then c = ap (λ (s : State). s.links) c.keep_sender.ensures.state ∙ kept-links c.args.copy (state c.args.panel.now)

pub add_lazy-requires : goal.add_lazy-requires
add_lazy-requires c =
    subst (λ (m : Links). (ascending (keys m) ≡ true) × (c.in-Faster.first < length m)) (sym (links-then (goal.at.add_lazy-requires c).After-keep_sender))
    (c.requires.0.consistent.core.links_up, subst (LateHeld (state c.args.panel.now)) c.in-Faster.is c.requires.2)

pub returns-in-Duplicate : goal.returns-in-Duplicate
returns-in-Duplicate c = record {
  state = c.add_lazy_peer.ensures.state ∙ after-duplicate c.args.copy (state c.args.panel.now) c.in-Duplicate.is;
  loan = c.add_lazy_peer.ensures.loan;
}

pub returns-in-Repeated : goal.returns-in-Repeated
returns-in-Repeated c = record { state = after-repeated c.args.copy (state c.args.panel.now) c.in-Repeated.is; loan = refl }

pub returns-in-Faster : goal.returns-in-Faster
returns-in-Faster c = record {
  state = c.add_lazy.ensures.state ∙ ap (λ (u : State). linked (add_lazy (peer_at u c.in-Faster.first)) u) c.keep_sender.ensures.state
      ∙ after-faster c.args.copy (state c.args.panel.now) c.in-Faster.first c.in-Faster.is;
  loan = c.add_lazy.ensures.loan ∙ c.keep_sender.ensures.loan;
}
