-- A mark anew, or none where the link is quiet.
use Rattle.block.proofs.Words.{◌≡◌, refl, sym, ap, ◌∙◌, keys, is_quiet, State, up_of}
use Rattle.block.specs.Panels.{state}
use Rattle.block.specs.LinkSteps.{peer_at, link_at, mark_value}
use Rattle.block.proofs.LinkLaws.{mark-there, mark-quiet}
use Rattle.block.proofs.PanelLaws.{here, same-state}
use Rattle.block.proofs.panel.Panel.set_mark.Goals as goal
use Rattle.block.proofs.panel.Panel.set_mark.Goals.{After-is_quiet}

-- whether the link is quiet
quiet : (c : After-is_quiet) → c.is_quiet.result ≡ is_quiet (link_at (state c.args.self.now) c.args.link).value
quiet c =
    c.is_quiet.ensures
    ∙ ap is_quiet (c.mark_at.ensures ∙ ap (λ (s : State). (link_at s c.args.link).value) (same-state c.args.self.now c.view.result c.view.ensures.head c.view.ensures.block))

pub returns-then-is_quiet : goal.returns-then-is_quiet
returns-then-is_quiet c =
    let s = state c.args.self.now in
    let i = c.args.link in
    record {
      state = mark-quiet s (peer_at s i) i (mark_value c.args.mark) (up_of (keys s.links) c.requires.0) (here i s c.requires.0 c.requires.1) (sym (quiet (goal.at.returns-then-is_quiet c).After-is_quiet) ∙ c.if-is_quiet.true);
      loan = refl;
    }

pub returns : goal.returns
returns c =
    let s = state c.args.self.now in
    let i = c.args.link in
    record {
      state = c.put_mark.ensures.state
          ∙ mark-there s (peer_at s i) i (mark_value c.args.mark) (up_of (keys s.links) c.requires.0) (here i s c.requires.0 c.requires.1) (sym (quiet (goal.at.returns c).After-is_quiet) ∙ c.if-is_quiet.false);
      loan = c.put_mark.ensures.loan;
    }
