use Rattle.payloads.proofs.Words.{◌∙◌, ap, not, sym, ℕ, Option, LinkIf, shown, peers_at}
use Rattle.std.proofs.Common.{subst}
use Rattle.payloads.specs.OptimizeTree.{wanted}
use Rattle.payloads.proofs.OptimizeTreeLaws.{wanted-link, wanted-stranger}
use Rattle.payloads.proofs.optimize_tree.optimized_sender.Goals as goal

pub returns-in_err-link : goal.returns-in_err-link
returns-in_err-link c =
    let a = c.args in
    let s = shown a.view.now in
    let peers = peers_at a.grafted s in
    subst (λ (o : Option ℕ). LinkIf s a.sender (wanted peers a.sender a.round.0 s) o) (sym c.from_residual.ensures) (wanted-stranger peers a.sender a.round.0 s c.in_err-link.ensures)

pub returns-then-graft_out : goal.returns-then-graft_out
returns-then-graft_out c =
    let a = c.args in
    let s = shown a.view.now in
    wanted-link (peers_at a.grafted s) a.sender a.round.0 s c.in_ok-link.link c.in_ok-link.ensures c.requires.0.consistent.core.links_up c.graft_out.result c.graft_out.ensures
    ∙ ap not c.if-graft_out.true

pub returns : goal.returns
returns c =
    let a = c.args in
    let s = shown a.view.now in (
      c.in_ok-link.ensures,
      wanted-link (peers_at a.grafted s) a.sender a.round.0 s c.in_ok-link.link c.in_ok-link.ensures c.requires.0.consistent.core.links_up c.graft_out.result c.graft_out.ensures
          ∙ ap not c.if-graft_out.false,
    )
