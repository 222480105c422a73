-- An old content goes, the entry is put in, and the content comes.
use Rattle.block.proofs.Words.{◌∙◌, id_of}
use Rattle.block.specs.Panels.{state}
use Rattle.block.proofs.ContentsLaws.Putting.{held-within, first-room, order-1, most-1, bare-1, order-2, room-2, also}
use Rattle.block.proofs.panel.Panel.insert_cached.Goals as goal

pub set_content-requires-clause-room : goal.set_content-requires-clause-room
set_content-requires-clause-room c =
    let p = c.args.self.now in
    first-room (id_of c.args.id) c.args.cached.content.now c.args.cached.round.0 c.args.expires.0 (state c.args.self.now) c.requires.order (held-within p.head p.block.now p.sound)

pub enter_cached-requires-clause-order : goal.enter_cached-requires-clause-order
enter_cached-requires-clause-order c = order-1 (id_of c.args.id) c.args.cached.content.now c.args.cached.round.0 c.args.expires.0 (state c.args.self.now) c.requires.order (state c.set_content.new.self) c.set_content.ensures.state

pub enter_cached-requires-clause-room : goal.enter_cached-requires-clause-room
enter_cached-requires-clause-room c = most-1 (id_of c.args.id) c.args.cached.content.now c.args.cached.round.0 c.args.expires.0 (state c.args.self.now) c.requires.order (state c.set_content.new.self) c.set_content.ensures.state c.requires.room

pub enter_cached-requires-clause-empty : goal.enter_cached-requires-clause-empty
enter_cached-requires-clause-empty c = bare-1 (id_of c.args.id) c.args.cached.content.now c.args.cached.round.0 c.args.expires.0 (state c.args.self.now) c.requires.order (state c.set_content.new.self) c.set_content.ensures.state

pub set_content-requires-2-clause-order : goal.set_content-requires-2-clause-order
set_content-requires-2-clause-order c = order-2 (id_of c.args.id) c.args.cached.content.now c.args.cached.round.0 c.args.expires.0 (state c.args.self.now) c.requires.order (state c.set_content.new.self) c.set_content.ensures.state (state c.enter_cached.new.self) c.enter_cached.ensures.state

pub set_content-requires-2-clause-room : goal.set_content-requires-2-clause-room
set_content-requires-2-clause-room c = room-2 (id_of c.args.id) c.args.cached.content.now c.args.cached.round.0 c.args.expires.0 (state c.args.self.now) c.requires.order (state c.set_content.new.self) c.set_content.ensures.state (state c.enter_cached.new.self) c.enter_cached.ensures.state c.requires.bytes

pub returns : goal.returns
returns c = record { state = also (id_of c.args.id) c.args.cached.content.now c.args.cached.round.0 c.args.expires.0 (state c.args.self.now) c.requires.order (state c.set_content.new.self) c.set_content.ensures.state (state c.enter_cached.new.self) c.enter_cached.ensures.state (state c.set_content-2.new.self) c.set_content-2.ensures.state; loan = c.set_content-2.ensures.loan ∙ c.enter_cached.ensures.loan ∙ c.set_content.ensures.loan }
