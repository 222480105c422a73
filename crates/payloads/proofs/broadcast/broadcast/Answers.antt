-- The message is taken in, the lazy push is queued, and what the eager push got back is noted.
use Rattle.payloads.proofs.Words.{ap, ◌∙◌, id_of, lazy_state, state}
use Rattle.payloads.proofs.PushedLaws.{own-number}
use Rattle.payloads.proofs.BroadcastStateLaws.{takes, lazy-asks, notes-below, notes-room, end-is}
use Rattle.payloads.proofs.broadcast.broadcast.Goals as goal

pub take_in-requires : goal.take_in-requires
take_in-requires c =
    let a = c.args in
    takes a.call.now a.message.now.id a.message.now.content.now (state a.panel.now) c.requires.0 c.requires.2

pub lazy_push-requires : goal.lazy_push-requires
lazy_push-requires c =
    let a = c.args in
    let p = a.panel.now in
    lazy-asks a.call.now a.message.now.id a.message.now.content.now (state p) c.requires.0 p.head.settings.me (own-number p.head p.block.now) (state c.take_in.new.panel) c.take_in.ensures.state

pub note_these-requires : goal.note_these-requires
note_these-requires c =
    let a = c.args in
    let m = a.message.now in
    let p = a.panel.now in
    let me = p.head.settings.me in
    let e = c.lazy_push.ensures.state ∙ ap (lazy_state (id_of m.id) 0 me) c.take_in.ensures.state in
    record {
      links = notes-below a.call.now m.id m.content.now (state p) c.requires.0 me (own-number p.head p.block.now) m.push c.requires.1 (state c.lazy_push.new.panel) e;
      room = notes-room a.call.now m.id m.content.now (state p) c.requires.0 me (own-number p.head p.block.now) m.push c.requires.1 (state c.lazy_push.new.panel) e;
    }

pub returns : goal.returns
returns c =
    let a = c.args in
    let m = a.message.now in
    let p = a.panel.now in
    let me = p.head.settings.me in
    record {
      state = end-is a.call.now m.id m.content.now (state p) c.requires.0 me (own-number p.head p.block.now) m.push c.requires.1 (state c.lazy_push.new.panel) (state c.note_these.new.panel)
          (c.lazy_push.ensures.state ∙ ap (lazy_state (id_of m.id) 0 me) c.take_in.ensures.state) c.note_these.ensures.state;
      loan = c.note_these.ensures.loan ∙ c.lazy_push.ensures.loan ∙ c.take_in.ensures.loan;
    }
