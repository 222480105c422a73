-- `note_link` meets its contract.
use Rattle.announcements.proofs.Words.{◌≡◌, ℕ, List, [], ◌∷◌, ◌++◌, ◌+◌, ◌-◌, ◌<◌, length, get_or, take, drop, set, sym, refl, ap, ◌∙◌, arith, true, false, ◌||◌, subst, length-append, length-drop, eqb-false, All-same, All-drop, id_of, State, Note, record_full, add_note, peer_at, note_at, shown, links-few}
use lib.ListN.{length-map}
use Rattle.announcements.specs.Marks.{place_of, Covers, FoundCached}
use Rattle.announcements.specs.QueuedRows.{held_then, ihave_of, ihaves_at, notes_at, among}
use Rattle.announcements.proofs.OnDispatchLaws.MarkLaws.{place-in, covers-same, covers-clear}
use Rattle.announcements.proofs.OnDispatchLaws.NotedLaws.{full-is, known, known-start, Holding, holding-start, holding-next, marked-next, grown-noted, grown-there, note-not-held, Sofar, sofar-start, sofar-next, sofar-full}
use Rattle.announcements.proofs.OnDispatchLaws.RowLaws.{to-end}
use Rattle.announcements.proofs.on_dispatch_timer.noted.note_link.Goals as goal
use Rattle.announcements.proofs.on_dispatch_timer.noted.note_link.Goals.{After-is_full, After-place-place, then-look_up_cached, else-look_up_cached}

pub overflow_cast-own_mark : goal.overflow_cast-own_mark
overflow_cast-own_mark c = let v = c.args.view.now in omega (arith, c.requires.back.link, links-few v.head.now v.block.now v.sound)

pub overflow_add-own_mark : goal.overflow_add-own_mark
overflow_add-own_mark c = let v = c.args.view.now in omega (arith, c.requires.back.link, links-few v.head.now v.block.now v.sound)

pub loop-row-init : goal.loop-row-init
loop-row-init c =
    let s = shown c.args.view.now in
    let p = peer_at s c.args.back.now.link in
    record {
      holding = holding-start p s.dropped s.queue c.args.back.now.recorded.now c.len-before.result c.args.noted.now.items c.len-before.ensures.value c.requires.recorded.mine c.requires.rows c.requires.below;
      sofar = sofar-start p s.dropped s.queue c.args.back.now.recorded.now c.len-before.result (held_then c.args.back.now.instant.0 s) c.args.back.now.rows.now (s.dropped ++ notes_at s.queue c.args.noted.now.items) c.args.noted.now.items refl;
      marked = covers-same c.mark.ensures (known p s.dropped s.queue c.args.back.now.recorded.now c.len-before.result c.args.noted.now.items)
          (known-start p s.dropped s.queue c.args.back.now.recorded.now c.len-before.result c.args.noted.now.items c.len-before.ensures.value);
      found = c.requires.found;
    }

-- the rows behind the first n
behind : (n : ℕ) (rows is : List ℕ) → rows ≡ is → take (length rows - n) (drop n rows) ≡ drop n is
behind n rows is e = to-end n rows ∙ ap (drop n) e

-- whether the record is full
module _ (c : After-is_full) where
  abbrev st : State
  st = shown c.args.view.now

  abbrev pe : ℕ
  pe = peer_at st c.args.back.now.link

  full : c.is_full.result ≡ record_full pe (st.dropped ++ notes_at st.queue c.loop-row.noted.items)
  full =
      c.is_full.ensures
      ∙ full-is pe _ (c.record_len.result + c.len.result) (st.dropped ++ notes_at st.queue c.loop-row.noted.items)
      (omega (arith, c.loop-row.invariant.holding.count, ap length c.as_slice.ensures.value, ap length (behind c.len-before.result _ _ c.as_slice.ensures.value), length-drop c.len-before.result c.loop-row.noted.items))
      (omega (arith, c.record_len.ensures.long, c.len.ensures.value, length-append st.dropped (notes_at st.queue c.loop-row.noted.items), length-map c.loop-row.noted.items (note_at st.queue)))

pub returns-then-is_full-clause-noted : goal.returns-then-is_full-clause-noted
returns-then-is_full-clause-noted c =
    let s = shown c.args.view.now in
    let p = peer_at s c.args.back.now.link in
    sofar-full p s.dropped s.queue c.args.back.now.recorded.now c.len-before.result (held_then c.args.back.now.instant.0 s) c.args.back.now.rows.now (s.dropped ++ notes_at s.queue c.args.noted.now.items) c.loop-row.row-index c.loop-row.noted.items
    c.loop-row.invariant.sofar (sym (full (goal.at.returns-then-is_full-clause-noted c).After-is_full) ∙ c.if-is_full.true)

pub bounds-marks-place : goal.bounds-marks-place
bounds-marks-place c = subst (λ (n : ℕ). n < 4096) (sym c.place-place.ensures) (place-in c.args.back.now.multiplier (id_of c.queued.result.id))

pub bounds-marks-place-then-look_up_cached : goal.bounds-marks-place-then-look_up_cached
bounds-marks-place-then-look_up_cached c = subst (λ (n : ℕ). n < 4096) (sym c.place-place.ensures) (place-in c.args.back.now.multiplier (id_of c.queued.result.id))

pub is_there-requires-clause-noted : goal.is_there-requires-clause-noted
is_there-requires-clause-noted c =
    let q = (shown c.args.view.now).queue in
    All-same (λ i. i < length q) _ (drop c.len-before.result c.loop-row.noted.items) (behind c.len-before.result _ _ c.as_slice.ensures.value) (All-drop (λ i. i < length q) c.len-before.result c.loop-row.noted.items c.loop-row.invariant.holding.among)

-- the row
module _ (c : After-place-place) where
  abbrev s : State
  s = shown c.args.view.now

  abbrev p : ℕ
  p = peer_at s c.args.back.now.link

  abbrev r : ℕ
  r = get_or c.args.back.now.rows.now c.loop-row.row-index 0

  abbrev x : Note
  x = note_at s.queue r

  there : r < length s.queue
  there = c.requires.back.among c.loop-row.row-index 0 c.loop-row-test.true

  own : x.peer ≡ p
  own = c.requires.back.own c.loop-row.row-index 0 c.loop-row-test.true

  id-is : id_of c.queued.result.id ≡ x.id
  id-is = ap (λ (n : Note). n.id) c.queued.ensures

  -- the rows that are noted for this link so far
  abbrev added : List ℕ
  added = take (length c.as_slice.result.now - c.len-before.result) (drop c.len-before.result c.as_slice.result.now)

  known-is : (among (id_of c.queued.result.id) (ihaves_at s.dropped c.args.back.now.recorded.now) || among (id_of c.queued.result.id) (ihaves_at s.queue added)) ≡ known p s.dropped s.queue c.args.back.now.recorded.now c.len-before.result c.loop-row.noted.items x.id
  known-is = λ i. among (id-is i) (ihaves_at s.dropped c.args.back.now.recorded.now) || among (id-is i) (ihaves_at s.queue (behind c.len-before.result _ _ c.as_slice.ensures.value i))

  place-is : c.place-place.result ≡ place_of c.args.back.now.multiplier x.id
  place-is = c.place-place.ensures ∙ ap (place_of c.args.back.now.multiplier) id-is

  -- what the loop keeps
  abbrev Keeps : List ℕ → List ℕ → List ℕ → Type 0
  Keeps rows marks found = record {
    holding : Holding p s.dropped s.queue c.args.back.now.recorded.now c.len-before.result rows;
    sofar : Sofar p s.dropped s.queue c.args.back.now.recorded.now c.len-before.result (held_then c.args.back.now.instant.0 s) c.args.back.now.rows.now (s.dropped ++ notes_at s.queue c.args.noted.now.items) (c.loop-row.row-index + 1) rows;
    marked : Covers c.args.back.now.multiplier (known p s.dropped s.queue c.args.back.now.recorded.now c.len-before.result rows) (c.args.back.now.link + 1) marks;
    found : FoundCached c.args.back.now.instant.0 s found;
  }

pub is_there-requires-clause-marked : goal.is_there-requires-clause-marked
is_there-requires-clause-marked c = λ z.
    let w = (goal.at.is_there-requires-clause-marked c).After-place-place in
    known-is w ∙ covers-clear c.loop-row.invariant.marked (x w).id (λ e. eqb-false (get_or c.loop-row.marks c.place-place.result 0) (c.args.back.now.link + 1) z (ap (λ (n : ℕ). get_or c.loop-row.marks n 0) (place-is w) ∙ e))

pub look_up_cached-requires-clause-row : goal.look_up_cached-requires-clause-row
look_up_cached-requires-clause-row c = there (goal.at.look_up_cached-requires-clause-row c).After-place-place

-- a row that is not noted
module _ (c : After-place-place) where
  still : add_note (held_then c.args.back.now.instant.0 (s c)) (p c) (ihave_of (x c)) ((s c).dropped ++ notes_at (s c).queue c.loop-row.noted.items) ≡ (s c).dropped ++ notes_at (s c).queue c.loop-row.noted.items → (found : List ℕ) → FoundCached c.args.back.now.instant.0 (s c) found → Keeps c c.loop-row.noted.items c.loop-row.marks found
  still e found f = record {
    holding = c.loop-row.invariant.holding;
    sofar = sofar-next (p c) (s c).dropped (s c).queue c.args.back.now.recorded.now c.len-before.result (held_then c.args.back.now.instant.0 (s c)) c.args.back.now.rows.now ((s c).dropped ++ notes_at (s c).queue c.args.noted.now.items) c.loop-row.row-index c.loop-row.noted.items c.loop-row.noted.items
        c.loop-row-test.true c.loop-row.invariant.sofar e;
    marked = c.loop-row.invariant.marked;
    found = f;
  }

  -- one that is noted
  more : record_full (p c) ((s c).dropped ++ notes_at (s c).queue c.loop-row.noted.items) ≡ false → held_then c.args.back.now.instant.0 (s c) (x c).id ≡ true → known (p c) (s c).dropped (s c).queue c.args.back.now.recorded.now c.len-before.result c.loop-row.noted.items (x c).id ≡ false
      → (found : List ℕ) → FoundCached c.args.back.now.instant.0 (s c) found → Keeps c (c.loop-row.noted.items ++ (r c ∷ [])) (set c.loop-row.marks c.place-place.result (c.args.back.now.link + 1)) found
  more f h k found g = record {
    holding = holding-next (p c) (s c).dropped (s c).queue c.args.back.now.recorded.now c.len-before.result c.loop-row.noted.items c.loop-row.invariant.holding (r c) (there c) (own c);
    sofar = sofar-next (p c) (s c).dropped (s c).queue c.args.back.now.recorded.now c.len-before.result (held_then c.args.back.now.instant.0 (s c)) c.args.back.now.rows.now ((s c).dropped ++ notes_at (s c).queue c.args.noted.now.items) c.loop-row.row-index c.loop-row.noted.items (c.loop-row.noted.items ++ (r c ∷ []))
        c.loop-row-test.true c.loop-row.invariant.sofar
        (grown-noted (p c) (s c).dropped (s c).queue c.args.back.now.recorded.now c.len-before.result c.loop-row.noted.items c.loop-row.invariant.holding (r c) (there c) (own c) (held_then c.args.back.now.instant.0 (s c)) f h k);
    marked = subst (λ (n : ℕ). Covers c.args.back.now.multiplier (known (p c) (s c).dropped (s c).queue c.args.back.now.recorded.now c.len-before.result (c.loop-row.noted.items ++ (r c ∷ []))) (c.args.back.now.link + 1) (set c.loop-row.marks n (c.args.back.now.link + 1))) (sym (place-is c))
        (marked-next (p c) (s c).dropped (s c).queue c.args.back.now.recorded.now c.len-before.result c.loop-row.noted.items c.loop-row.invariant.holding (r c) (there c) (own c) c.loop-row.invariant.marked);
    found = g;
  }

pub loop-row-preserved-then-is_there : goal.loop-row-preserved-then-is_there
loop-row-preserved-then-is_there c =
    let w = (goal.at.loop-row-preserved-then-is_there c).After-place-place in
    still w
    (grown-there (p w) (s w).dropped (s w).queue c.args.back.now.recorded.now c.len-before.result c.loop-row.noted.items c.loop-row.invariant.holding (r w) (there w) (own w) (held_then c.args.back.now.instant.0 (s w)) (sym (known-is w) ∙ sym c.is_there.ensures ∙ c.if-is_there.true))
    c.loop-row.found c.loop-row.invariant.found

pub loop-row-preserved : goal.loop-row-preserved
loop-row-preserved c =
    let w = (goal.at.loop-row-preserved c).After-place-place in
    let held = held_then c.args.back.now.instant.0 (s w) in
    elim c.if-look_up_cached.branch [
      | then-look_up_cached b ↦
          rw (b.noted-is, b.push.ensures.items, b.marks-is)
          (more w
          (sym (full ((goal.at.After-place-place w).After-is_full)) ∙ c.if-is_full.false)
          (sym c.look_up_cached.ensures.held ∙ b.if-look_up_cached.true)
          (sym (known-is w) ∙ sym c.is_there.ensures ∙ c.if-is_there.false)
          _ c.look_up_cached.ensures.found)
      | else-look_up_cached b ↦
          rw (b.noted-is, b.marks-is)
          (still w (note-not-held held (p w) (ihave_of (x w)) ((s w).dropped ++ notes_at (s w).queue c.loop-row.noted.items) (sym c.look_up_cached.ensures.held ∙ b.if-look_up_cached.false))
          _ c.look_up_cached.ensures.found)
    ]
