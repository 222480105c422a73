-- `late_actions` meets its contract: a Prune to the sender or to the first sender, or nothing.
use Rattle.payloads.proofs.Words.{◌<◌, ◌∙◌, ap, sym, refl, arith, length, List, ℕ, peer_at, after, after_nil, shown, NumberedLink, links-few}
use Rattle.std.proofs.Common.{subst}
use Rattle.payloads.specs.OnLateGraftReply.{LateHeld}
use Rattle.payloads.proofs.OptimizeTreeLaws.{link-peer}
use Rattle.payloads.proofs.OnLateGraftReplyLaws.{taken-link, bytes-sender, bytes-first, bytes-none}
use Rattle.payloads.proofs.on_late_graft_reply.late_actions.Goals as goal
use Rattle.payloads.proofs.on_late_graft_reply.late_actions.Goals.{In-Faster}

-- the first sender's link is there
there : (g : _) (c : In-Faster g) → c.in-Faster.first < length (shown c.args.view.now).links
there g c = subst (LateHeld (shown c.args.view.now)) c.in-Faster.is c.requires.rest.2

pub link-requires : goal.link-requires
link-requires g c = there g (goal.at.link-requires g c).In-Faster

pub takes-requires : goal.takes-requires
takes-requires g c = let v = c.args.view.now in omega (arith, there g (goal.at.takes-requires g c).In-Faster, links-few v.head.now v.block.now v.sound)

pub returns-in-Duplicate : goal.returns-in-Duplicate
returns-in-Duplicate g c =
    c.encode.ensures
    ∙ ap (λ (bs : List ℕ). after bs (g.S.Sink.intake c.args.out.now)) (sym (bytes-sender c.args.call.now c.args.copy (shown c.args.view.now) c.in-Duplicate.is c.takes_back-taken.result c.takes_back-taken.ensures))

pub returns-in-Repeated : goal.returns-in-Repeated
returns-in-Repeated g c =
    sym (after_nil (g.S.Sink.intake c.args.out.now))
    ∙ ap (λ (bs : List ℕ). after bs (g.S.Sink.intake c.args.out.now)) (sym (bytes-none c.args.call.now c.args.copy (shown c.args.view.now) c.in-Repeated.is))

pub returns-in-Faster : goal.returns-in-Faster
returns-in-Faster g c =
    let s = shown c.args.view.now in
    let l = c.in-Faster.first in
    c.encode-in-Faster.ensures ∙ ap (λ (bs : List ℕ). after bs (g.S.Sink.intake c.args.out.now)) (sym (bytes-first c.args.call.now c.args.copy s l c.in-Faster.is c.link.result.peer (ap (λ (x : NumberedLink). x.peer) c.link.ensures ∙ link-peer s l) c.takes.result
    (c.takes.ensures ∙ taken-link c.args.call.now s c.requires.rest.0.consistent.core.links_up (peer_at s l) l (record { below = there g (goal.at.returns-in-Faster g c).In-Faster; peer = refl }))))
