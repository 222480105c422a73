use Rattle.steps.proofs.Words.{arith, ap, sym, ◌∙◌, ◌≡◌, length, ◌∷◌, [], length-append, id_of, State, peer_at, note, standing, state, same-state}
use Rattle.steps.specs.Record.{takes_note}
use Rattle.block.specs.declared.panel.Panel.{Panel}
use Rattle.steps.proofs.RecordLaws.{noted-yes, state-yes, state-no}
use Rattle.steps.proofs.note_dropped.note_dropped.Goals as goal
use Rattle.steps.proofs.note_dropped.note_dropped.Goals.{then-takes_note, else-takes_note, After-takes_note}

takes : (c : After-takes_note) → c.takes_note.result ≡ takes_note (peer_at (state c.args.panel.now) c.args.link) (id_of c.args.id) (state c.args.panel.now).dropped
takes c = c.takes_note.ensures ∙ ap (λ (s : State). takes_note (peer_at s c.args.link) (id_of c.args.id) s.dropped) (same-state c.args.panel.now c.view.result c.view.ensures.head c.view.ensures.block)

pub push_note-requires-clause-room : goal.push_note-requires-clause-room
push_note-requires-clause-room c =
    let s = state c.args.panel.now in
    let l = c.args.link in
    omega (arith, c.requires.room, ap length (noted-yes l (id_of c.args.id) c.args.round.0 s c.requires.cached (sym (takes (goal.at.push_note-requires-clause-room c).After-takes_note) ∙ c.if-takes_note.true)), length-append s.dropped (note (peer_at s l) (id_of c.args.id) c.args.round.0 ∷ []))

pub returns : goal.returns
returns c =
    let s = state c.args.panel.now in
    let t = takes (goal.at.returns c).After-takes_note in
    elim c.if-takes_note.branch [
      | then-takes_note w ↦ record {
        state = c.flag_announce.ensures.state ∙ ap (λ (p : Panel). standing (state p)) w.panel-is ∙ ap standing w.push_note.ensures.state ∙ state-yes c.args.link (id_of c.args.id) c.args.round.0 s c.requires.cached (sym t ∙ w.if-takes_note.true);
        loan = c.flag_announce.ensures.loan ∙ ap (λ (p : Panel). p.block.ghost_name) w.panel-is ∙ w.push_note.ensures.loan;
      }
      | else-takes_note w ↦ record {
        state = c.flag_announce.ensures.state ∙ ap (λ (p : Panel). standing (state p)) w.panel-is ∙ state-no c.args.link (id_of c.args.id) c.args.round.0 s c.requires.cached (sym t ∙ w.if-takes_note.false);
        loan = c.flag_announce.ensures.loan ∙ ap (λ (p : Panel). p.block.ghost_name) w.panel-is;
      }
    ]
