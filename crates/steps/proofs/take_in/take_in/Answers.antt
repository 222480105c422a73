-- `take_in` meets its contract: the message is marked received, and then cached.
use Rattle.steps.proofs.Words.{arith, ◌∙◌, id_of, state}
use Rattle.block.specs.View.{state_of}
use Rattle.steps.proofs.AtRestLaws.{received-order}
use Rattle.steps.proofs.Takings.{times-fit, order-then, most-received, most-then, bytes-then, taken-then}
use Rattle.steps.proofs.take_in.take_in.Goals as goal

pub overflow_add-forgotten : goal.overflow_add-forgotten
unfolding state_of
overflow_add-forgotten c = omega (arith, c.requires.early, (times-fit (state c.args.panel.now) c.requires.rest.ranged).0)

pub overflow_add-uncached : goal.overflow_add-uncached
unfolding state_of
overflow_add-uncached c = omega (arith, c.requires.early, (times-fit (state c.args.panel.now) c.requires.rest.ranged).1)

pub insert_received-requires-clause-order : goal.insert_received-requires-clause-order
insert_received-requires-clause-order c = received-order (state c.args.panel.now) c.requires.rest

pub insert_received-requires-clause-room : goal.insert_received-requires-clause-room
unfolding state_of
insert_received-requires-clause-room c =
    let a = c.args in
    let s = state a.panel.now in
    most-received a.call.now.instant.0 (id_of a.id) a.content.now a.round.0 s c.requires

pub insert_cached-requires-clause-order : goal.insert_cached-requires-clause-order
unfolding state_of
insert_cached-requires-clause-order c =
    let a = c.args in
    order-then a.call.now.instant.0 (id_of a.id) a.content.now a.round.0 (state a.panel.now) _ c.insert_received.ensures.state c.requires.rest

pub insert_cached-requires-clause-room : goal.insert_cached-requires-clause-room
unfolding state_of
insert_cached-requires-clause-room c =
    let a = c.args in
    most-then a.call.now.instant.0 (id_of a.id) a.content.now a.round.0 (state a.panel.now) _ c.insert_received.ensures.state c.requires

pub insert_cached-requires-clause-bytes : goal.insert_cached-requires-clause-bytes
unfolding state_of
insert_cached-requires-clause-bytes c =
    let a = c.args in
    bytes-then a.call.now.instant.0 (id_of a.id) a.content.now a.round.0 (state a.panel.now) _ c.insert_received.ensures.state c.requires

pub returns : goal.returns
unfolding state_of
returns c =
    let a = c.args in
    record {
      state = taken-then a.call.now.instant.0 (id_of a.id) a.content.now a.round.0 (state a.panel.now) _ c.insert_received.ensures.state _ c.insert_cached.ensures.state;
      loan = c.insert_cached.ensures.loan ∙ c.insert_received.ensures.loan;
    }
