-- `note_rows` meets its contract.
use Rattle.announcements.proofs.Words.{ap, ◌∙◌, State, state}
use Rattle.block.specs.NoteSteps.{standing}
use Rattle.announcements.proofs.OnDispatchLaws.StateLaws.{first-all}
use Rattle.announcements.proofs.on_dispatch_timer.note_rows.Goals as goal

pub returns : goal.returns
returns c = record {
  state = c.flag_announce.ensures.state ∙ ap (λ (u : State). standing u) c.loop-row.invariant.state ∙ first-all c.args.rows.now c.loop-row.row-index c.loop-row-test.false (state c.args.panel.now);
  loan = c.flag_announce.ensures.loan ∙ c.loop-row.invariant.loan;
}
