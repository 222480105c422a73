-- `ask_first` meets its contract: the first announcer leaves, becomes eager, and is grafted for the message.
use Rattle.announcements.proofs.Words.{sym, ap, ◌∙◌, ◌≡◌, ◌<◌, get_or, length, subst, id_of, add_eager, State, peer_at, linked, state, same-state}
use Rattle.block.specs.MissingSteps.{hop, hops_at}
use Rattle.steps.specs.Asked.{Graftable, grafted_until}
use Rattle.block.specs.Found.{HopOf}
use Rattle.announcements.proofs.OnSendGraftTimerLaws.{some-hops, mid, asked-graft, asked-graftable}
use Rattle.announcements.proofs.on_send_graft_timer.ask_first.Goals as goal
use Rattle.announcements.proofs.on_send_graft_timer.ask_first.Goals.{Start, After-announcer-first, After-add_eager}

-- the message is missing, and somebody announced it
there : (c : Start) → (c.args.entry < length (state c.args.panel.now).missing) × (0 < length (hops_at (state c.args.panel.now) c.args.entry))
there c =
    let m = c.requires.missing in
    (m.below, some-hops (state c.args.panel.now) c.args.entry c.requires.step.rest m.below)

pub announcer-first-requires : goal.announcer-first-requires
announcer-first-requires c =
    subst (λ (s : State). (c.args.entry < length s.missing) × (0 < length (hops_at s c.args.entry))) (sym (same-state c.args.panel.now c.view.result c.view.ensures.head c.view.ensures.block))
    (there (goal.at.announcer-first-requires c).Start)

pub leave_first-requires-clause-announced : goal.leave_first-requires-clause-announced
leave_first-requires-clause-announced c = there (goal.at.leave_first-requires-clause-announced c).Start

-- the announcer
first : (c : After-announcer-first) → HopOf (state c.args.panel.now) (get_or (hops_at (state c.args.panel.now) c.args.entry) 0 (hop 0 0)) c.announcer-first.result
first c =
    subst (λ (s : State). HopOf s (get_or (hops_at s c.args.entry) 0 (hop 0 0)) c.announcer-first.result) (same-state c.args.panel.now c.view.result c.view.ensures.head c.view.ensures.block) c.announcer-first.ensures

-- it has left, and is eager
between : (c : After-add_eager) → state c.add_eager.new.self
    ≡ mid (id_of c.args.id) c.args.entry (state c.args.panel.now) c.requires.step.rest c.requires.missing c.announcer-first.result (first (goal.at.After-add_eager c).After-announcer-first)
between c = c.add_eager.ensures.state ∙ ap (λ (s : State). linked (add_eager (peer_at s c.announcer-first.result.link)) s) c.leave_first.ensures.state

pub note_graft-requires : goal.note_graft-requires
note_graft-requires c =
    let s = state c.args.panel.now in
    let f = c.announcer-first.result in
    let now = c.args.call.now.instant.0 in
    subst (λ (t : State). Graftable now f.link (id_of c.args.id) f.round.0 t) (sym (between (goal.at.note_graft-requires c).After-add_eager))
    (asked-graftable (id_of c.args.id) c.args.entry s c.requires.step.rest c.requires.missing f (first (goal.at.note_graft-requires c).After-announcer-first) now c.requires.early c.requires.step.fits)

pub returns : goal.returns
returns c =
    let s = state c.args.panel.now in
    let f = c.announcer-first.result in
    let now = c.args.call.now.instant.0 in
    record {
      state = c.note_graft.ensures.state
          ∙ ap (grafted_until now f.link (id_of c.args.id) f.round.0) (between (goal.at.returns c).After-add_eager)
          ∙ asked-graft (id_of c.args.id) c.args.entry s c.requires.step.rest c.requires.missing f (first (goal.at.returns c).After-announcer-first) now;
      loan = c.note_graft.ensures.loan ∙ c.add_eager.ensures.loan ∙ c.leave_first.ensures.loan;
    }
