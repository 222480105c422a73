-- `hear`: announcers behind those of messages that were missing before, then the two merges.
use Rattle.announcements.proofs.Words.{◌∙◌, state}
use Rattle.block.specs.MissingSteps.{announced_all}
use Rattle.block.specs.TimerSteps.{marked_all}
use Rattle.announcements.specs.OnIhave.{entries_value, entries_at, ids, new_timers}
use Rattle.announcements.proofs.IhavesLaws.StateLaws.{announcing, marking, done}
use Rattle.announcements.proofs.on_ihave.hear.Goals as goal

pub announce_all-requires : goal.announce_all-requires
announce_all-requires g c =
    let a = c.args in
    let d = a.decision.now in
    let s = state a.panel.now in
    rw (c.list_missing-count.ensures.listed s c.requires.decided.adds, c.announce_again.ensures.state)
    (announcing a.link s d.entries.now d.order.now c.requires.decided c.requires.allowed.0 c.requires.allowed.1)

pub mark_all-requires : goal.mark_all-requires
mark_all-requires g c =
    let a = c.args in
    let d = a.decision.now in
    let s = state a.panel.now in
    rw (c.list_timers-count.ensures.listed s c.requires.decided.adds, c.announce_all.ensures.state, c.list_missing-count.ensures.listed s c.requires.decided.adds, c.announce_again.ensures.state)
    (marking a.link s d.entries.now d.order.now c.requires.decided c.requires.allowed.0 c.requires.allowed.1)

pub returns : goal.returns
returns g c =
    let a = c.args in
    let d = a.decision.now in
    let s = state a.panel.now in
    let fresh = c.list_missing-count.ensures.listed s c.requires.decided.adds in
    let unmarked = c.list_timers-count.ensures.listed s c.requires.decided.adds in
    record {
      state = c.mark_all.ensures.state
          ∙ (λ k. marked_all (unmarked k) (c.announce_all.ensures.state k))
          ∙ (λ k. marked_all (ids (new_timers s (entries_at (entries_value d.entries.now) d.order.now))) (announced_all a.link (fresh k) (c.announce_again.ensures.state k)))
          ∙ done a.link s d.entries.now d.order.now c.requires.decided c.requires.allowed.0 c.requires.allowed.1;
      loan = c.mark_all.ensures.loan ∙ c.announce_all.ensures.loan ∙ c.announce_again.ensures.loan;
    }
