-- One announcer goes with its row, of several the first.
use Rattle.block.proofs.Words.{◌≡◌, sym, ap, ◌∙◌, length, arith, State}
use Rattle.block.specs.Panels.{state}
use Rattle.block.specs.MissingSteps.{hops_at}
use Rattle.block.proofs.AnnounceLaws.{left_one, left-more}
use Rattle.block.proofs.PanelLaws.{same-state}
use Rattle.block.proofs.panel.Panel.leave_first.Goals as goal
use Rattle.block.proofs.panel.Panel.leave_first.Goals.{After-announcer_count}

-- how many announcers were counted
count : (c : After-announcer_count) → c.announcer_count.result ≡ length (hops_at (state c.args.self.now) c.args.missing)
count c = c.announcer_count.ensures.0 ∙ ap (λ (s : State). length (hops_at s c.args.missing)) (same-state c.args.self.now c.view.result c.view.ensures.head c.view.ensures.block)

pub returns-then-announcer_count-eq1 : goal.returns-then-announcer_count-eq1
returns-then-announcer_count-eq1 c =
    let d = (goal.at.returns-then-announcer_count-eq1 c).After-announcer_count in
    let g = c.remove_missing.ensures in
    record { state = g.state ∙ left_one (state c.args.self.now) c.args.missing (sym (count d) ∙ c.if-announcer_count-eq1.true); loan = g.loan }

pub returns-else-announcer_count-eq1 : goal.returns-else-announcer_count-eq1
returns-else-announcer_count-eq1 c =
    let d = (goal.at.returns-else-announcer_count-eq1 c).After-announcer_count in
    let g = c.drop_announcer.ensures in
    record { state = g.state ∙ left-more (state c.args.self.now) c.args.missing (omega (arith, count d, c.if-announcer_count-eq1.false, c.requires.announced.1)); loan = g.loan }
