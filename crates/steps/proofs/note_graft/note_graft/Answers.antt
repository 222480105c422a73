use Rattle.std.proofs.Common.{arith}
use Rattle.block.specs.View.{state_of}
use Rattle.steps.proofs.note_graft.note_graft.Goals as goal

pub overflow_add-expires : goal.overflow_add-expires
unfolding state_of
overflow_add-expires c = omega (arith, c.requires.early, c.requires.retention)

pub insert_grafted-requires-clause-grafting : goal.insert_grafted-requires-clause-grafting
insert_grafted-requires-clause-grafting c = record { links_up = c.requires.links; order = c.requires.order; whole = c.requires.whole }

pub insert_grafted-requires-clause-room : goal.insert_grafted-requires-clause-room
unfolding state_of
insert_grafted-requires-clause-room c = c.requires.room

pub returns : goal.returns
unfolding state_of
returns c = record { state = c.insert_grafted.ensures.state; loan = c.insert_grafted.ensures.loan }
