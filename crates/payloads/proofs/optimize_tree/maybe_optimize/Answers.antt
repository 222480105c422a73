-- `maybe_optimize` meets its contract: by what was decided.
use Rattle.payloads.proofs.Words.{◌∙◌, ap, refl, sym, Option, state}
use Rattle.std.proofs.Common.{subst}
use Rattle.payloads.specs.OptimizeTree.{ShortcutHeld, after_shortcut}
use Rattle.payloads.specs.declared.optimize_tree.Shortcut.{Shortcut}
use Rattle.payloads.proofs.optimize_tree.maybe_optimize.Goals as goal

pub optimize_tree-requires : goal.optimize_tree-requires
optimize_tree-requires c =
    let h = subst (ShortcutHeld (state c.args.panel.now)) c.in-Some.is c.requires.1 in
    (c.requires.0.consistent.core.links_up, h.0, h.1)

pub returns-in-Some : goal.returns-in-Some
returns-in-Some c = record {
  state = c.optimize_tree.ensures.state ∙ ap (λ (o : Option Shortcut). after_shortcut o (state c.args.panel.now)) (sym c.in-Some.is);
  loan = c.optimize_tree.ensures.loan;
}

pub returns-in_default : goal.returns-in_default
returns-in_default c = record { state = ap (λ (o : Option Shortcut). after_shortcut o (state c.args.panel.now)) (sym c.in_default.is); loan = refl }
