-- `count_moves` meets its contract: what moves and what stays of the rows passed, once all are.
use Rattle.announcements.proofs.Words.{◌≡◌, ◌+◌, ◌<◌, ◌≤◌, ◌∙◌, sym, ap, length, get_or, arith, List, [], ◌∷◌, not, Bool, false, true, ltb-true, ltb-false, length-append, not-true, not-false, id_of, keys, State, Note, oldest, younger, note, settled, shown, links-few}
use Rattle.announcements.proofs.AnnounceLaws.Turns.{Read, moves, moves-alone, stays, stays-alone}
use Rattle.announcements.proofs.OnAnnounceDroppedTimerLaws.{still, held_then, entry, passing-start, passing-skip, passing-more, link-low, seen-small, still-not, passed-few, oldest-start, younger-start, still-end}
use Rattle.announcements.proofs.CachedRowsLaws.{told-as, row-then, rows-then}
use Rattle.announcements.proofs.on_announce_dropped_timer.count_moves.Goals as goal
use Rattle.announcements.proofs.on_announce_dropped_timer.count_moves.Goals.{After-recorded-note, then-is_oldest, else-is_oldest}

pub loop-row-init : goal.loop-row-init
loop-row-init c =
    let s = shown c.args.view.now in
    let held = held_then c.args.call.now.instant.0 s in
    record {
      passing = passing-start held s c.none-passed.result.counts c.none-passed.ensures;
      moved = ap length (sym (oldest-start held s));
      left = ap length (sym (younger-start held s));
    }

-- row i is read
module _ (d : After-recorded-note) where
  abbrev s : State
  s = shown d.args.view.now

  low : d.loop-row.row < length s.dropped
  low = omega (arith, d.loop-row-test.true, d.record_len-row-end.ensures.long)

  few : length s.links ≤ 32
  few = links-few d.args.view.now.head.now d.args.view.now.block.now d.args.view.now.sound

  read : Read (held_then d.args.call.now.instant.0 s) (keys s.links) s.dropped d.loop-row.row d.loop-row.passed.counts d.recorded-note.result.link (id_of d.recorded-note.result.id) d.recorded-note.result.round.0
  read = entry (held_then d.args.call.now.instant.0 s) s d.requires.rest few d.loop-row.row d.loop-row.passed.counts d.loop-row.invariant.passing low d.recorded-note.result d.recorded-note.ensures

  -- those that move and those that stay are no more than the rows passed
  counted : d.loop-row.moved + d.loop-row.left ≤ 4096
  counted =
      omega (arith, d.loop-row.invariant.moved, d.loop-row.invariant.left, passed-few (held_then d.args.call.now.instant.0 s) s d.requires.rest d.loop-row.row d.loop-row.passed.counts d.loop-row.invariant.passing)

  -- whether it is cached
  told : (b : Bool) → get_or d.args.cached.now d.loop-row.row false ≡ b → held_then d.args.call.now.instant.0 s (id_of d.recorded-note.result.id) ≡ b
  told b e =
      let now = d.args.call.now.instant.0 in
      told-as (settled now s) d.args.cached.now d.requires.cached d.loop-row.row (omega (arith, low, rows-then now s)) (id_of d.recorded-note.result.id) (row-then now s d.loop-row.row d.recorded-note.result d.recorded-note.ensures) b e

pub bounds-cached-row : goal.bounds-cached-row
bounds-cached-row c =
    let d = (goal.at.bounds-cached-row c).After-recorded-note in
    omega (arith, low d, rows-then c.args.call.now.instant.0 (s d), c.requires.cached.long)

pub loop-row-preserved-then-not-cached-row : goal.loop-row-preserved-then-not-cached-row
loop-row-preserved-then-not-cached-row c =
    let d = (goal.at.loop-row-preserved-then-not-cached-row c).After-recorded-note in
    let held = held_then c.args.call.now.instant.0 (s d) in
    let n = c.recorded-note in
    let e = told d false (not-true (get_or c.args.cached.now c.loop-row.row false) (ap not c.if-not-cached-row.true)) in
    let same = still-not held (s d) c.loop-row.row (low d) n.result n.ensures e in
    record {
      passing = passing-skip held (s d) c.requires.rest (few d) c.loop-row.row c.loop-row.passed.counts c.loop-row.invariant.passing (low d) n.result n.ensures e;
      moved = c.loop-row.invariant.moved ∙ ap (λ (ns : List Note). length (oldest [] ns)) (sym same);
      left = c.loop-row.invariant.left ∙ ap (λ (ns : List Note). length (younger [] ns)) (sym same);
    }

pub is_oldest-requires-clause-link : goal.is_oldest-requires-clause-link
is_oldest-requires-clause-link c =
    let d = (goal.at.is_oldest-requires-clause-link c).After-recorded-note in
    link-low (held_then c.args.call.now.instant.0 (s d)) (s d) c.requires.rest (few d) c.loop-row.row c.loop-row.passed.counts c.loop-row.invariant.passing (low d) c.recorded-note.result c.recorded-note.ensures

pub is_oldest-requires-clause-few : goal.is_oldest-requires-clause-few
is_oldest-requires-clause-few c =
    let d = (goal.at.is_oldest-requires-clause-few c).After-recorded-note in
    seen-small (held_then c.args.call.now.instant.0 (s d)) (s d) c.requires.rest (few d) c.loop-row.row c.loop-row.passed.counts c.loop-row.invariant.passing (low d) c.recorded-note.result c.recorded-note.ensures

pub overflow_add-moved : goal.overflow_add-moved
overflow_add-moved c = omega (arith, counted (goal.at.overflow_add-moved c).After-recorded-note)

pub overflow_add-left : goal.overflow_add-left
overflow_add-left c = omega (arith, counted (goal.at.overflow_add-left c).After-recorded-note)

pub returns : goal.returns
returns c =
    let v = c.args.view.now in
    let all = still-end c.args.call.now.instant.0 (shown v) c.loop-row.row (omega (arith, c.loop-row-test.false, c.record_len-row-end.ensures.long)) in
    record {
      rows = c.requires.cached;
      moved = c.loop-row.invariant.moved ∙ ap (λ (ns : List Note). length (oldest [] ns)) all;
      left = c.loop-row.invariant.left ∙ ap (λ (ns : List Note). length (younger [] ns)) all;
    }

pub loop-row-preserved : goal.loop-row-preserved
loop-row-preserved c =
    let d = (goal.at.loop-row-preserved c).After-recorded-note in
    let held = held_then c.args.call.now.instant.0 (s d) in
    let n = c.recorded-note in
    let i = c.loop-row.row in
    let seen = get_or c.loop-row.passed.counts n.result.link 0 in
    let at = get_or (s d).dropped i (note 0 0 0) in
    let e = told d true (not-false (get_or c.args.cached.now c.loop-row.row false) (ap not c.if-not-cached-row.false)) in
    record {
      passing = passing-more held (s d) c.requires.rest (few d) i c.loop-row.passed.counts c.loop-row.invariant.passing (low d) n.result n.ensures e c.is_oldest.new.self.counts c.is_oldest.ensures.counts;
      moved = elim c.if-is_oldest.branch [
        | then-is_oldest w ↦
            let m : seen < 64 = ltb-true seen 64 (sym c.is_oldest.ensures.oldest ∙ w.if-is_oldest.true) in
            omega (arith, w.moved-is, c.loop-row.invariant.moved, ap length (moves (read d) e m), length-append (oldest [] (still held (s d) i)) (at ∷ []))
        | else-is_oldest w ↦
            let m : 64 ≤ seen = ltb-false seen 64 (sym c.is_oldest.ensures.oldest ∙ w.if-is_oldest.false) in
            omega (arith, w.moved-is, c.loop-row.invariant.moved, ap length (stays-alone (read d) e m))
      ];
      left = elim c.if-is_oldest.branch [
        | then-is_oldest w ↦
            let m : seen < 64 = ltb-true seen 64 (sym c.is_oldest.ensures.oldest ∙ w.if-is_oldest.true) in
            omega (arith, w.left-is, c.loop-row.invariant.left, ap length (moves-alone (read d) e m))
        | else-is_oldest w ↦
            let m : 64 ≤ seen = ltb-false seen 64 (sym c.is_oldest.ensures.oldest ∙ w.if-is_oldest.false) in
            omega (arith, w.left-is, c.loop-row.invariant.left, ap length (stays (read d) e m), length-append (younger [] (still held (s d) i)) (at ∷ []))
      ];
    }
