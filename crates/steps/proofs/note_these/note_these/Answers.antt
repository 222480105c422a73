-- `note_these` meets its contract: a note more where the link is in the set.
use Rattle.steps.proofs.Words.{◌≡◌, ◌≤◌, ◌∙◌, refl, ap, sym, arith, length, id_of, State, note_also, standing, state, same-state}
use Rattle.std.proofs.Common.{subst}
use Rattle.block.specs.declared.panel.Panel.{Panel}
use Rattle.block.specs.declared.note.NoteTable.TheVariants.{Record}
use Rattle.block.proofs.ViewLaws.{links-few}
use Rattle.steps.specs.LinkSets.{AllBelow}
use Rattle.steps.proofs.NoteTheseLaws.{noting-none, noting-in, noting-out, noting-all, record-room}
use Rattle.steps.proofs.note_these.note_these.Goals as goal
use Rattle.steps.proofs.note_these.note_these.Goals.{Start, After-link_count-link-end, In-loop-link, then-contains, else-contains}

few : (c : Start) → length (state c.args.panel.now).links ≤ 32
few c = links-few c.args.panel.now.head c.args.panel.now.block.now c.args.panel.now.sound

-- the links are all
all_links : (c : After-link_count-link-end) → c.link_count-link-end.result ≡ length (state c.args.panel.now).links
all_links c = c.link_count-link-end.ensures ∙ ap (λ (s : State). length s.links) (same-state c.args.panel.now c.view.result c.view.ensures.head c.view.ensures.block)

pub loop-link-init : goal.loop-link-init
loop-link-init c = record { state = noting-none c.args.noted (id_of c.args.id) c.args.round.0 (state c.args.panel.now); loan = refl }

pub contains-requires : goal.contains-requires
contains-requires c = omega (arith, few (goal.at.contains-requires c).Start, all_links (goal.at.contains-requires c).After-link_count-link-end, c.loop-link-test.true)

pub push_note-requires-clause-link : goal.push_note-requires-clause-link
push_note-requires-clause-link c =
    omega (arith, all_links (goal.at.push_note-requires-clause-link c).After-link_count-link-end, c.loop-link-test.true, ap (λ (s : State). length s.links) c.loop-link.invariant.state)

pub push_note-requires-clause-room : goal.push_note-requires-clause-room
push_note-requires-clause-room c =
    omega (
      arith,
      record-room c.args.noted (id_of c.args.id) c.args.round.0 (state c.args.panel.now) c.loop-link.link
          (omega (arith, few (goal.at.push_note-requires-clause-room c).Start, all_links (goal.at.push_note-requires-clause-room c).After-link_count-link-end, c.loop-link-test.true))
          (sym c.contains.ensures ∙ c.if-contains.true) c.requires.room,
      ap (λ (s : State). length s.dropped) c.loop-link.invariant.state,
      ap (λ (s : State). s.limits.D) c.loop-link.invariant.state,
    )

pub loop-link-preserved : goal.loop-link-preserved
loop-link-preserved c =
    let a = c.args in
    let i = c.loop-link.link in
    elim c.if-contains.branch [
      | then-contains w ↦ record {
        state = ap (λ (p : Panel). state p) w.panel-is ∙ w.push_note.ensures.state
            ∙ ap (note_also Record i (id_of a.id) a.round.0) c.loop-link.invariant.state
            ∙ noting-in a.noted (id_of a.id) a.round.0 (state a.panel.now) i (sym c.contains.ensures ∙ w.if-contains.true);
        loan = ap (λ (p : Panel). p.block.ghost_name) w.panel-is ∙ w.push_note.ensures.loan ∙ c.loop-link.invariant.loan;
      }
      | else-contains w ↦ record {
        state = ap (λ (p : Panel). state p) w.panel-is ∙ c.loop-link.invariant.state
            ∙ noting-out a.noted (id_of a.id) a.round.0 (state a.panel.now) i (sym c.contains.ensures ∙ w.if-contains.false);
        loan = ap (λ (p : Panel). p.block.ghost_name) w.panel-is ∙ c.loop-link.invariant.loan;
      }
    ]

pub returns : goal.returns
returns c =
    let a = c.args in
    let s = state a.panel.now in
    let n = c.loop-link.link in
    let q : length s.links ≡ n = omega (arith, all_links (goal.at.returns c).After-link_count-link-end, c.loop-link-test.false, c.loop-link.auto.link-end) in
    record {
      state = c.flag_announce.ensures.state ∙ ap standing c.loop-link.invariant.state
          ∙ ap standing (noting-all a.noted (id_of a.id) a.round.0 s n (subst (AllBelow a.noted) q c.requires.links) (omega (arith, q, few (goal.at.returns c).Start)));
      loan = c.flag_announce.ensures.loan ∙ c.loop-link.invariant.loan;
    }
