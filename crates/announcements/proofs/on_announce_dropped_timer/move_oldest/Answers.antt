-- `move_oldest` meets its contract: row by row, and the record cut behind what stays.
use Rattle.announcements.proofs.Words.{◌≡◌, ◌<◌, ◌≤◌, ◌∙◌, sym, ap, refl, length, get_or, arith, List, [], not, false, true, Bool, subst, ltb-true, ltb-false, not-true, not-false, id_of, keys, holds, State, Note, younger, note, NoteOf, count-dropped, state, same-state, links-few}
use Rattle.announcements.proofs.AnnounceLaws.Turns.{Read}
use Rattle.announcements.proofs.OnAnnounceDroppedTimerLaws.{held_now, entry, passing-start, passing-skip, passing-more, link-low, seen-small, still-not, younger-start, move-start, kept-few, same-rows, same-links, row-in, move-skip, move-room, move-take, take-kept, keep-room, move-keep, keep-kept, move-end}
use Rattle.announcements.proofs.CachedRowsLaws.{told-as, row-id}
use Rattle.announcements.proofs.on_announce_dropped_timer.move_oldest.Goals as goal
use Rattle.announcements.proofs.on_announce_dropped_timer.move_oldest.Goals.{After-recorded-note, then-is_oldest, else-is_oldest}

pub loop-row-init : goal.loop-row-init
loop-row-init c =
    let s = state c.args.panel.now in
    record {
      passing = passing-start (held_now s) s c.none-passed.result.counts c.none-passed.ensures;
      goes = record { state = move-start s c.requires.step; loan = refl };
      kept = ap length (sym (younger-start (held_now s) s));
    }

pub recorded-note-requires : goal.recorded-note-requires
recorded-note-requires c =
    let p = c.args.panel.now in
    omega (
      arith,
      c.loop-row-test.true,
      count-dropped p.head p.block.now p.sound,
      same-rows (state p) c.requires.step c.loop-row.row (state c.loop-row.panel) c.loop-row.invariant.goes.state c.loop-row.invariant.passing.within,
      ap (λ (t : State). length t.dropped) (same-state c.loop-row.panel c.view.result c.view.ensures.head c.view.ensures.block),
    )

-- the note that was read
module _ (d : After-recorded-note) where
  abbrev s : State
  s = state d.args.panel.now

  abbrev q : State
  q = state d.loop-row.panel

  within : d.loop-row.row ≤ length s.dropped
  within = d.loop-row.invariant.passing.within

  few : length s.links ≤ 32
  few = links-few d.args.panel.now.head d.args.panel.now.block.now d.args.panel.now.sound

  low : d.loop-row.row < length s.dropped
  low = let p = d.args.panel.now in omega (arith, d.loop-row-test.true, count-dropped p.head p.block.now p.sound)

  row : NoteOf s (get_or s.dropped d.loop-row.row (note 0 0 0)) d.recorded-note.result
  row = row-in s d.requires.step d.loop-row.row q d.loop-row.invariant.goes.state within d.recorded-note.result
      (subst (λ (u : State). NoteOf u (get_or u.dropped d.loop-row.row (note 0 0 0)) d.recorded-note.result) (same-state d.loop-row.panel d.view.result d.view.ensures.head d.view.ensures.block) d.recorded-note.ensures)

  read : Read (held_now s) (keys s.links) s.dropped d.loop-row.row d.loop-row.passed.counts d.recorded-note.result.link (id_of d.recorded-note.result.id) d.recorded-note.result.round.0
  read = entry (held_now s) s d.requires.step.rest few d.loop-row.row d.loop-row.passed.counts d.loop-row.invariant.passing low d.recorded-note.result row

-- whether it is cached
told : (d : After-recorded-note) → (b : Bool) → get_or d.args.cached.now d.loop-row.row false ≡ b → holds (id_of d.recorded-note.result.id) (state d.args.panel.now).cache ≡ b
told d b e = told-as (s d) d.args.cached.now d.requires.cached d.loop-row.row (low d) (id_of d.recorded-note.result.id) (row-id (s d) d.loop-row.row d.recorded-note.result (row d)) b e

pub bounds-cached-row : goal.bounds-cached-row
bounds-cached-row c = omega (arith, low (goal.at.bounds-cached-row c).After-recorded-note, c.requires.cached.long)

pub loop-row-preserved-then-not-cached-row : goal.loop-row-preserved-then-not-cached-row
loop-row-preserved-then-not-cached-row c =
    let d = (goal.at.loop-row-preserved-then-not-cached-row c).After-recorded-note in
    let z = s d in
    let i = c.loop-row.row in
    let n = c.recorded-note.result in
    let e = told (goal.at.loop-row-preserved-then-not-cached-row c).After-recorded-note false (not-true (get_or c.args.cached.now c.loop-row.row false) (ap not c.if-not-cached-row.true)) in
    let same = still-not (held_now z) z i (low d) n (row d) e in
    record {
      passing = passing-skip (held_now z) z c.requires.step.rest (few d) i c.loop-row.passed.counts c.loop-row.invariant.passing (low d) n (row d) e;
      goes = record { state = move-skip z c.requires.step i (q d) c.loop-row.invariant.goes.state (within d) same; loan = c.loop-row.invariant.goes.loan };
      kept = c.loop-row.invariant.kept ∙ ap (λ (ns : List Note). length (younger [] ns)) (sym same);
    }

pub is_oldest-requires-clause-link : goal.is_oldest-requires-clause-link
is_oldest-requires-clause-link c =
    let d = (goal.at.is_oldest-requires-clause-link c).After-recorded-note in
    link-low (held_now (s d)) (s d) c.requires.step.rest (few d) c.loop-row.row c.loop-row.passed.counts c.loop-row.invariant.passing (low d) c.recorded-note.result (row d)

pub is_oldest-requires-clause-few : goal.is_oldest-requires-clause-few
is_oldest-requires-clause-few c =
    let d = (goal.at.is_oldest-requires-clause-few c).After-recorded-note in
    seen-small (held_now (s d)) (s d) c.requires.step.rest (few d) c.loop-row.row c.loop-row.passed.counts c.loop-row.invariant.passing (low d) c.recorded-note.result (row d)

pub push_note-requires-clause-room : goal.push_note-requires-clause-room
push_note-requires-clause-room c =
    let d = (goal.at.push_note-requires-clause-room c).After-recorded-note in
    let seen = get_or c.loop-row.passed.counts c.recorded-note.result.link 0 in
    move-room (s d) c.requires.step c.loop-row.row (q d) c.loop-row.invariant.goes.state (within d) c.loop-row.passed.counts c.recorded-note.result (read d) (row d)
    (told (goal.at.push_note-requires-clause-room c).After-recorded-note true (not-false (get_or c.args.cached.now c.loop-row.row false) (ap not c.if-not-cached-row.false))) (ltb-true seen 64 (sym c.is_oldest.ensures.oldest ∙ c.if-is_oldest.true))

pub set_dropped-requires : goal.set_dropped-requires
set_dropped-requires c =
    let d = (goal.at.set_dropped-requires c).After-recorded-note in
    let seen = get_or c.loop-row.passed.counts c.recorded-note.result.link 0 in (
      keep-room (s d) c.requires.step c.loop-row.row (q d) c.loop-row.invariant.goes.state (within d) c.loop-row.passed.counts c.recorded-note.result (read d) (row d)
          (told (goal.at.set_dropped-requires c).After-recorded-note true (not-false (get_or c.args.cached.now c.loop-row.row false) (ap not c.if-not-cached-row.false))) c.loop-row.kept c.loop-row.invariant.kept
          (ltb-false seen 64 (sym c.is_oldest.ensures.oldest ∙ c.if-is_oldest.false)) (low d),
      omega (arith, (row d).below, same-links (s d) c.requires.step c.loop-row.row (q d) c.loop-row.invariant.goes.state (within d)),
    )

pub overflow_add-kept : goal.overflow_add-kept
overflow_add-kept c =
    let d = (goal.at.overflow_add-kept c).After-recorded-note in
    omega (arith, c.loop-row.invariant.kept, kept-few (s d) c.requires.step c.loop-row.row (q d) c.loop-row.invariant.goes.state (within d), low d, c.requires.step.rest.consistent.core.within.in_all)

pub loop-row-preserved : goal.loop-row-preserved
loop-row-preserved c =
    let d = (goal.at.loop-row-preserved c).After-recorded-note in
    let z = s d in
    let i = c.loop-row.row in
    let n = c.recorded-note.result in
    let seen = get_or c.loop-row.passed.counts n.link 0 in
    let e = told (goal.at.loop-row-preserved c).After-recorded-note true (not-false (get_or c.args.cached.now c.loop-row.row false) (ap not c.if-not-cached-row.false)) in
    let so = c.loop-row.invariant.goes.state in
    record {
      passing = passing-more (held_now z) z c.requires.step.rest (few d) i c.loop-row.passed.counts c.loop-row.invariant.passing (low d) n (row d) e c.is_oldest.new.self.counts c.is_oldest.ensures.counts;
      goes = elim c.if-is_oldest.branch [
        | then-is_oldest w ↦
            let m : seen < 64 = ltb-true seen 64 (sym c.is_oldest.ensures.oldest ∙ w.if-is_oldest.true) in
            rw w.panel-is (record {
              state = w.push_note.ensures.state
                  ∙ move-take z c.requires.step i (q d) so (within d) c.loop-row.passed.counts n (read d) (row d) e m;
              loan = w.push_note.ensures.loan ∙ c.loop-row.invariant.goes.loan;
            })
        | else-is_oldest w ↦
            let m : 64 ≤ seen = ltb-false seen 64 (sym c.is_oldest.ensures.oldest ∙ w.if-is_oldest.false) in
            rw w.panel-is (record {
              state = w.set_dropped.ensures.state
                  ∙ move-keep z c.requires.step i (q d) so (within d) c.loop-row.passed.counts n (read d) (row d) e c.loop-row.kept c.loop-row.invariant.kept m (low d);
              loan = w.set_dropped.ensures.loan ∙ c.loop-row.invariant.goes.loan;
            })
      ];
      kept = elim c.if-is_oldest.branch [
        | then-is_oldest w ↦
            let m : seen < 64 = ltb-true seen 64 (sym c.is_oldest.ensures.oldest ∙ w.if-is_oldest.true) in
            w.kept-is ∙ c.loop-row.invariant.kept ∙ ap length (sym (take-kept z c.requires.step i (q d) so (within d) c.loop-row.passed.counts n (read d) (row d) e m))
        | else-is_oldest w ↦
            let m : 64 ≤ seen = ltb-false seen 64 (sym c.is_oldest.ensures.oldest ∙ w.if-is_oldest.false) in
            w.kept-is ∙ keep-kept z c.requires.step i (q d) so (within d) c.loop-row.passed.counts n (read d) (row d) e c.loop-row.kept c.loop-row.invariant.kept m
      ];
    }

pub truncate_dropped-requires : goal.truncate_dropped-requires
truncate_dropped-requires c =
    let s = state c.args.panel.now in
    let q = state c.loop-row.panel in
    let so = c.loop-row.invariant.goes.state in
    let within = c.loop-row.invariant.passing.within in
    omega (arith, c.loop-row.invariant.kept, kept-few s c.requires.step c.loop-row.row q so within, within, same-rows s c.requires.step c.loop-row.row q so within)

pub returns : goal.returns
returns c =
    let p = c.args.panel.now in
    record {
      state = c.truncate_dropped.ensures.state
          ∙ move-end (state p) c.requires.step c.loop-row.row (state c.loop-row.panel) c.loop-row.invariant.goes.state c.loop-row.invariant.passing.within c.loop-row.kept c.loop-row.invariant.kept
          (omega (arith, c.loop-row-test.false, count-dropped p.head p.block.now p.sound));
      loan = c.truncate_dropped.ensures.loan ∙ c.loop-row.invariant.goes.loan;
    }
