-- `optimize_actions` meets its contract: by what was decided.
use Rattle.payloads.proofs.Words.{◌≡◌, ◌∙◌, ap, sym, Option, after, after_nil, shown}
use Rattle.std.proofs.Common.{subst}
use Rattle.payloads.specs.OptimizeTree.{ShortcutHeld, shortcut_bytes}
use Rattle.payloads.specs.declared.optimize_tree.Shortcut.{Shortcut}
use Rattle.payloads.proofs.optimize_tree.optimize_actions.Goals as goal
use Rattle.payloads.proofs.optimize_tree.optimize_actions.Goals.{Start}

-- by what the match tells of it
as_told : (g : _) (c : Start g) {o : Option Shortcut} → c.args.shortcut ≡ o
    → after (shortcut_bytes c.args.call.now o (shown c.args.view.now)) (g.S.Sink.intake c.args.out.now) ≡ after (shortcut_bytes c.args.call.now c.args.shortcut (shown c.args.view.now)) (g.S.Sink.intake c.args.out.now)
as_told g c e = ap (λ (o : Option Shortcut). after (shortcut_bytes c.args.call.now o (shown c.args.view.now)) (g.S.Sink.intake c.args.out.now)) (sym e)

pub shortcut_actions-requires : goal.shortcut_actions-requires
shortcut_actions-requires g c =
    let h = subst (ShortcutHeld (shown c.args.view.now)) c.in-Some.is c.requires.rest.1 in
    record { rest = (c.requires.rest.0, h.0, h.1) }

pub returns-in-Some : goal.returns-in-Some
returns-in-Some g c = c.shortcut_actions.ensures ∙ as_told g (goal.at.returns-in-Some g c).Start c.in-Some.is

pub returns-in_default : goal.returns-in_default
returns-in_default g c = sym (after_nil (g.S.Sink.intake c.args.out.now)) ∙ as_told g (goal.at.returns-in_default g c).Start c.in_default.is
