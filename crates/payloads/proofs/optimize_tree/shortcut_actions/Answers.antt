-- `shortcut_actions` meets its contract: a Prune alone, or a Graft and a Prune.
use Rattle.payloads.proofs.Words.{◌∙◌, ap, sym, ℕ, Bool, List, ◌++◌, arith, None, Prune, Graft, message_bytes, send_head, after, after_append, shown, links-few}
use Rattle.payloads.proofs.OptimizeTreeLaws.{sent-eager, sent-lazy}
use Rattle.payloads.proofs.optimize_tree.shortcut_actions.Goals as goal

abbrev Alone : ℕ → Bool → List ℕ
Alone p t = send_head p t ++ message_bytes Prune

abbrev Asked : ℕ → Bool → ℕ → List ℕ
Asked p t r = send_head p t ++ message_bytes (Graft None r)

pub takes-requires : goal.takes-requires
takes-requires g c = let v = c.args.view.now in omega (arith, c.requires.rest.1, links-few v.head.now v.block.now v.sound)

pub returns-then-announcer : goal.returns-then-announcer
returns-then-announcer g c =
    let v = c.args.view.now in
    let r = c.args.shortcut in
    c.encode.ensures
    ∙ ap (λ (bs : List ℕ). after bs (g.S.Sink.intake c.args.out.now))
    (sym (sent-eager c.args.call.now r (shown v) c.requires.rest.0.consistent.core.links_up c.requires.rest.1 c.requires.rest.2 c.link-sender.result c.link-announcer.result c.link-sender.ensures c.link-announcer.ensures c.if-announcer.true c.takes.result c.takes.ensures))

pub takes-requires-2 : goal.takes-requires-2
takes-requires-2 g c = let v = c.args.view.now in omega (arith, c.requires.rest.2, links-few v.head.now v.block.now v.sound)

pub takes_prune-requires : goal.takes_prune-requires
takes_prune-requires g c = let v = c.args.view.now in omega (arith, c.requires.rest.1, links-few v.head.now v.block.now v.sound)

pub returns : goal.returns
returns g c =
    let v = c.args.view.now in
    let r = c.args.shortcut in
    let h = g.S.Sink.intake c.args.out.now in
    let a = Asked c.link-announcer.result.peer c.takes-2.result r.round.0 in
    let b = Alone c.link-sender.result.peer c.takes_prune.result in
    c.encode-3.ensures ∙ ap (after b) c.encode-2.ensures ∙ after_append a b h
    ∙ ap (λ (bs : List ℕ). after bs h) (sym (sent-lazy c.args.call.now r (shown v) c.requires.rest.0.consistent.core.links_up c.requires.rest.1 c.requires.rest.2 c.link-sender.result c.link-announcer.result c.link-sender.ensures c.link-announcer.ensures c.if-announcer.false c.takes-2.result c.takes_prune.result c.takes-2.ensures c.takes_prune.ensures))
