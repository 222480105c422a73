-- `find_shortcut` meets its contract: by the sender, and the announcer that was found.
use Rattle.payloads.proofs.Words.{arith, ◌∙◌, sym, Option, id_of, shown, links-few, peers_at}
use Rattle.std.proofs.Common.{subst}
use Rattle.payloads.specs.OptimizeTree.{shortcut, ShortcutOf}
use Rattle.payloads.specs.declared.optimize_tree.Shortcut.{Shortcut}
use Rattle.payloads.proofs.OptimizeTreeLaws.{shortcut-yes, shortcut-no}
use Rattle.payloads.proofs.optimize_tree.find_shortcut.Goals as goal

pub returns-in_err-sender : goal.returns-in_err-sender
returns-in_err-sender c =
    let a = c.args in
    let s = shown a.view.now in
    let peers = peers_at a.grafted s in
    subst (λ (o : Option Shortcut). ShortcutOf s a.sender (shortcut peers (id_of a.id) a.sender a.round.0 s) o) (sym c.from_residual.ensures)
    (shortcut-no peers a.sender a.round.0 s (id_of a.id) c.in_err-sender.ensures)

pub returns-in_err-announcer : goal.returns-in_err-announcer
returns-in_err-announcer c =
    let a = c.args in
    let s = shown a.view.now in
    let peers = peers_at a.grafted s in
    subst (λ (o : Option Shortcut). ShortcutOf s a.sender (shortcut peers (id_of a.id) a.sender a.round.0 s) o) (sym c.from_residual-in_err-announcer.ensures)
    (shortcut-yes peers a.sender a.round.0 s (id_of a.id) c.in_ok-sender.ensures.1 ∙ c.in_err-announcer.ensures)

pub returns : goal.returns
returns c =
    let a = c.args in
    let s = shown a.view.now in (
      c.in_ok-sender.ensures.0,
      record {
        below = c.in_ok-announcer.ensures.below;
        same = shortcut-yes (peers_at a.grafted s) a.sender a.round.0 s (id_of a.id) c.in_ok-sender.ensures.1 ∙ c.in_ok-announcer.ensures.same;
      },
    )

pub overflow_cast-result : goal.overflow_cast-result
overflow_cast-result c = let v = c.args.view.now in omega (arith, c.in_ok-sender.ensures.0.below, links-few v.head.now v.block.now v.sound)

pub overflow_cast-result-2 : goal.overflow_cast-result-2
overflow_cast-result-2 c = let v = c.args.view.now in omega (arith, c.in_ok-announcer.ensures.below, links-few v.head.now v.block.now v.sound)
