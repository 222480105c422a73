-- The message is taken in, `first` is set, what the eager push got back is noted, the lazy push is queued, and the rest is finished.
use Rattle.payloads.proofs.Words.{◌≡◌, ap, ◌∙◌, ◌+◌, add-one, id_of, first_set_state, lazy_state, state, links_of, these_noted}
use Rattle.payloads.specs.OptimizeTree.{finished_state}
use Rattle.payloads.proofs.GossipStateLaws.StageLaws.{first_set, pushed_on, queued, end-new, takes, first-asks, notes, notes-below, notes-room, lazy-asks, finishes, finish-asks}
use Rattle.payloads.proofs.on_gossip.on_gossip.Goals as goal
use Rattle.payloads.proofs.on_gossip.on_gossip.Goals.{After-set_first, After-note_these, After-lazy_push}

-- what the panel holds behind each step
first-is : (c : After-set_first) → let a = c.args in state c.set_first.new.panel ≡ first_set a.call.now a.message.now (a.message.now.round.0 + 1) (state a.panel.now)
first-is c = let m = c.args.message.now in c.set_first.ensures.state ∙ ap (first_set_state (id_of m.id) m.sender m.round.0) c.take_in.ensures.state

pushed-is : (c : After-note_these) → let a = c.args in state c.note_these.new.panel ≡ pushed_on a.call.now a.message.now (a.message.now.round.0 + 1) (state a.panel.now)
pushed-is c =
    let a = c.args in
    let m = a.message.now in
    c.note_these.ensures.state
    ∙ ap (these_noted (links_of m.decision.push.noted) (id_of m.id) (m.round.0 + 1)) (first-is (goal.at.After-note_these c).After-set_first)
    ∙ notes a.call.now m (m.round.0 + 1) (state a.panel.now) c.requires.decided

queued-is : (c : After-lazy_push) → let a = c.args in state c.lazy_push.new.panel ≡ queued a.call.now a.message.now (a.message.now.round.0 + 1) (state a.panel.now)
queued-is c =
    let m = c.args.message.now in
    c.lazy_push.ensures.state ∙ ap (lazy_state (id_of m.id) (m.round.0 + 1) m.sender) (pushed-is (goal.at.After-lazy_push c).After-note_these)

pub take_in-requires : goal.take_in-requires
take_in-requires c =
    let a = c.args in
    let m = a.message.now in
    takes a.call.now m (m.round.0 + 1) (state a.panel.now) (add-one m.round.0) c.requires.allowed.0 c.requires.allowed.1 c.requires.ranges.1

pub set_first-requires : goal.set_first-requires
set_first-requires c =
    let a = c.args in
    let m = a.message.now in
    first-asks a.call.now m (m.round.0 + 1) (state a.panel.now) (add-one m.round.0) c.requires.allowed.0 c.requires.allowed.1 (state c.take_in.new.panel) c.take_in.ensures.state

pub note_these-requires : goal.note_these-requires
note_these-requires c =
    let a = c.args in
    let m = a.message.now in
    let s = state a.panel.now in
    let e = first-is (goal.at.note_these-requires c).After-set_first in
    record {
      links = notes-below a.call.now m (m.round.0 + 1) s (add-one m.round.0) c.requires.allowed.0 c.requires.allowed.1 c.requires.decided (state c.set_first.new.panel) e;
      room = notes-room a.call.now m (m.round.0 + 1) s (add-one m.round.0) c.requires.allowed.0 c.requires.allowed.1 c.requires.decided (state c.set_first.new.panel) e;
    }

pub lazy_push-requires : goal.lazy_push-requires
lazy_push-requires c =
    let a = c.args in
    let m = a.message.now in
    lazy-asks a.call.now m (m.round.0 + 1) (state a.panel.now) (add-one m.round.0) c.requires.allowed.0 c.requires.allowed.1 (state c.note_these.new.panel) (pushed-is (goal.at.lazy_push-requires c).After-note_these)

pub forget_and_optimize-requires : goal.forget_and_optimize-requires
forget_and_optimize-requires c =
    let a = c.args in
    let m = a.message.now in
    finish-asks a.call.now m (m.round.0 + 1) (state a.panel.now) (add-one m.round.0) c.requires.allowed.0 c.requires.allowed.1 c.requires.decided (state c.lazy_push.new.panel) (queued-is (goal.at.forget_and_optimize-requires c).After-lazy_push)

pub returns : goal.returns
returns c =
    let a = c.args in
    let m = a.message.now in
    record {
      state = c.forget_and_optimize.ensures.state ∙ ap (finished_state (id_of m.id) m.decision.shortcut) (queued-is (goal.at.returns c).After-lazy_push)
          ∙ finishes a.call.now m (m.round.0 + 1) (state a.panel.now) c.requires.decided ∙ end-new a.call.now m (m.round.0 + 1) (state a.panel.now) (add-one m.round.0);
      loan = c.forget_and_optimize.ensures.loan ∙ c.lazy_push.ensures.loan ∙ c.note_these.ensures.loan ∙ c.set_first.ensures.loan ∙ c.take_in.ensures.loan;
    }
