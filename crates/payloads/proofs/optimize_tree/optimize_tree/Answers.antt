-- `optimize_tree` meets its contract: the announcer's mark, then the sender's.
use Rattle.payloads.proofs.Words.{◌≡◌, ◌∙◌, ap, sym, true, length, ◌<◌, ascending, keys, add_lazy, is_eager, State, peer_at, link_at, linked, state, NumberedLink, same-state}
use Rattle.std.proofs.Common.{subst}
use Rattle.block.specs.declared.panel.Panel.{Panel}
use Rattle.steps.proofs.SettledLaws.SizeLaws.{no, yes}
use Rattle.payloads.proofs.OptimizeTreeLaws.{marked, marked-yes, marked-no, marked-up, marked-low, marked-then}
use Rattle.payloads.proofs.optimize_tree.optimize_tree.Goals as goal
use Rattle.payloads.proofs.optimize_tree.optimize_tree.Goals.{After-link, Joined-not-link, then-not-link, else-not-link}

-- whether the announcer is eager
announcer-mark : (c : After-link) → c.link.result.eager ≡ is_eager (link_at (state c.args.panel.now) c.args.shortcut.announcer).value
announcer-mark c =
    ap (λ (k : NumberedLink). k.eager) c.link.ensures
    ∙ ap (λ (u : State). is_eager (link_at u c.args.shortcut.announcer).value) (same-state c.args.panel.now c.view.result c.view.ensures.head c.view.ensures.block)

-- the state once the announcer is eager
between : (c : Joined-not-link) → state c.if-not-link.panel ≡ marked c.args.shortcut (state c.args.panel.now)
between c =
    let s = state c.args.panel.now in
    elim c.if-not-link.branch [
      | then-not-link w ↦ ap (λ (p : Panel). state p) w.panel-is ∙ w.add_eager.ensures.state ∙ marked-no c.args.shortcut s c.requires.0 c.requires.1 c.requires.2 (no (announcer-mark (goal.at.Joined-not-link c).After-link) w.if-not-link.true)
      | else-not-link w ↦ ap (λ (p : Panel). state p) w.panel-is ∙ marked-yes c.args.shortcut s c.requires.0 c.requires.1 c.requires.2 (yes (announcer-mark (goal.at.Joined-not-link c).After-link) w.if-not-link.false)
    ]

same-loan : (c : Joined-not-link) → c.if-not-link.panel.block.ghost_name ≡ c.args.panel.now.block.ghost_name
same-loan c =
    elim c.if-not-link.branch [
      | then-not-link w ↦ ap (λ (p : Panel). p.block.ghost_name) w.panel-is ∙ w.add_eager.ensures.loan
      | else-not-link w ↦ ap (λ (p : Panel). p.block.ghost_name) w.panel-is
    ]

pub add_lazy-requires : goal.add_lazy-requires
add_lazy-requires c =
    let s = state c.args.panel.now in
    let r = c.args.shortcut in
    subst (λ (u : State). (ascending (keys u.links) ≡ true) × (r.sender < length u.links)) (sym (between (goal.at.add_lazy-requires c).Joined-not-link))
    (marked-up r s c.requires.0 c.requires.1 c.requires.2, marked-low r s c.requires.0 c.requires.1 c.requires.2)

pub returns : goal.returns
returns c =
    let s = state c.args.panel.now in
    let r = c.args.shortcut in
    let j = (goal.at.returns c).Joined-not-link in
    record {
      state = c.add_lazy.ensures.state ∙ ap (λ (u : State). linked (add_lazy (peer_at u r.sender)) u) (between j) ∙ marked-then r s c.requires.0 c.requires.1 c.requires.2;
      loan = c.add_lazy.ensures.loan ∙ same-loan j;
    }
