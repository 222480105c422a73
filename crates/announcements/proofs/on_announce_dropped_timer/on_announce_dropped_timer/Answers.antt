-- `on_announce_dropped_timer` meets its contract: the identifiers move, then the two flags.
use Rattle.announcements.proofs.Words.{◌≡◌, ◌∙◌, ap, length, arith, true, false, State, with_announce_scheduled, with_dispatch_scheduled, count-queue, state}
use Rattle.block.specs.NoteSteps.{standing}
use Rattle.block.specs.declared.panel.Panel.{Panel}
use Rattle.announcements.specs.Announce.Moves.{moved_state}
use Rattle.announcements.proofs.OnAnnounceDroppedTimerLaws.{flags-some, flags-none}
use Rattle.announcements.proofs.on_announce_dropped_timer.on_announce_dropped_timer.Goals as goal
use Rattle.announcements.proofs.on_announce_dropped_timer.on_announce_dropped_timer.Goals.{After-unflag_announce, then-panel-gt0, else-panel-gt0}

-- the queue, once the identifiers have moved
moved : (c : After-unflag_announce) → state c.unflag_announce.new.self ≡ with_announce_scheduled false (moved_state (state c.args.panel.now))
moved c = c.unflag_announce.ensures.state ∙ ap (with_announce_scheduled false) c.move_oldest.ensures.state

queued : (c : After-unflag_announce) → c.unflag_announce.new.self.head.live.queued ≡ length (moved_state (state c.args.panel.now)).queue
queued c = let p = c.unflag_announce.new.self in omega (arith, count-queue p.head p.block.now p.sound, ap (λ (s : State). length s.queue) (moved c))

pub returns : goal.returns
returns c =
    let d = (goal.at.returns c).After-unflag_announce in
    let s = state c.args.panel.now in
    elim c.if-panel-gt0.branch [
      | then-panel-gt0 w ↦ record {
        state = c.flag_announce.ensures.state
            ∙ ap (λ (p : Panel). standing (state p)) w.panel-is
            ∙ ap standing (w.flag_dispatch.ensures.state ∙ ap (with_dispatch_scheduled true) (moved d))
            ∙ flags-some s (omega (arith, w.if-panel-gt0.true, queued d));
        loan = c.flag_announce.ensures.loan ∙ ap (λ (p : Panel). p.block.ghost_name) w.panel-is ∙ w.flag_dispatch.ensures.loan ∙ c.unflag_announce.ensures.loan ∙ c.move_oldest.ensures.loan;
      }
      | else-panel-gt0 w ↦ record {
        state = c.flag_announce.ensures.state
            ∙ ap (λ (p : Panel). standing (state p)) w.panel-is
            ∙ ap standing (moved d)
            ∙ flags-none s (omega (arith, w.if-panel-gt0.false, queued d));
        loan = c.flag_announce.ensures.loan ∙ ap (λ (p : Panel). p.block.ghost_name) w.panel-is ∙ c.unflag_announce.ensures.loan ∙ c.move_oldest.ensures.loan;
      }
    ]
