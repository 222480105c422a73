-- AnnounceDropped: the pass over the record, of states; what moves and what stays, as numbers and as questions; and the step.
-- Assumes nothing.
use Rattle.announcements.proofs.Words.{◌≡◌, ℕ, ◌+◌, ◌≤◌, ◌<◌, zero-le, length, get_or, set, take, replicate, refl, sym, ap, ◌∙◌, arith, Bool, true, false, not, ◌||◌, ltb, List, [], ◌∷◌, ◌++◌, append_assoc, if◌then◌else◌, subst, append-nil, nil_from_length, leb-true, lt-ltb, length-append, is_empty, keys, id_of, true≢, and_left, and_right, length-filter, count-length, concat-append, holds, Action, action_bytes, State, Note, zero_counts, with_queue, with_dropped, with_dispatch_scheduled, with_announce_scheduled, Run, begin, settled, Sizes, sized_queued, sized_recorded, announce_action, note, note_for, queue_also, drop_instead, NoteOf, record_cut, Intake, after_nil, AtRest, Allowed, sizes_value, settled-as}
use Rattle.std.proofs.Common.{take_all}
use lib.ListN.{length-map}
use Rattle.storage.specs.Lists.Base.{filter, concat_map}
use Rattle.storage.specs.Rows.Part.{part, put}
use Rattle.storage.proofs.RowsLaws.Parts.{put-nil, put-put-next, part-put, length-put, get_or-put-after}
use Rattle.time_cache.proofs.Orders.{up_of}
use Rattle.protocol.specs.Ticks.{oldest, younger, still_cached}
use Rattle.protocol.specs.Whole.{fits}
use Rattle.decide.specs.Sizes.{sizes_of}
use Rattle.decide.proofs.SizesAfter.{announce_sizes}
use Rattle.decide.specs.StateAfter.{announce_state}
use Rattle.decide.specs.ActionsAfter.{dispatch_action, announce_actions}
use Rattle.decide.proofs.AnnounceDropped.{announce-sizes, moved_all}
use Rattle.decide.proofs.StateAfterLaws.{announce-state}
use Rattle.block.specs.NoteSteps.{standing as flagged}
use Rattle.block.specs.declared.note.Note.{Note as LinkNote}
use Rattle.wire.specs.Encode.Intake.{after}
use Rattle.steps.specs.declared.Sizes.{Sizes as CodeSizes}
use Rattle.announcements.specs.Announce.Moves.{moved_state}
use Rattle.announcements.specs.OnAnnounceDroppedTimer.{announce_bytes, queue_stands, record_stands, StillCachedOf}
use Rattle.announcements.specs.declared.on_announce_dropped_timer.StillCached.{StillCached}
use Rattle.announcements.proofs.AnnounceLaws.Turns.{standing, standing-few, oldest-within, younger-few, stands-not, Counts, counts_start, Read, seen_few, gone, counted, moves, moves-alone, stays, stays-alone}

-- the pass, with a test of identifiers

module _ (held : ℕ → Bool) (s : State) where
  -- what stands of the first i entries
  abbrev pub still : ℕ → List Note
  still i = standing held s.dropped i

  -- they are counted
  pub record Passing (i : ℕ) (seen : List ℕ) : Type 0 where
    pub within : i ≤ length s.dropped
    pub counts : Counts (keys s.links) seen (still i)

  pub passing-start : (seen : List ℕ) → seen ≡ replicate {A = ℕ} 32 0 → Passing 0 seen
  unfolding filter
  passing-start seen e = record { within = zero-le; counts = counts_start (keys s.links) seen e }

  pub still-start : still 0 ≡ []
  unfolding filter
  still-start = refl

  pub younger-start : younger [] (still 0) ≡ []
  unfolding filter younger
  younger-start = refl

  pub oldest-start : oldest [] (still 0) ≡ []
  unfolding filter oldest
  oldest-start = refl

  pub still-all : (i : ℕ) → length s.dropped ≤ i → still i ≡ filter (λ n. held n.id) s.dropped
  still-all i q = ap (filter (λ (n : Note). held n.id)) (take_all i s.dropped q)

  -- what moves and what stays of them is no more than they are
  pub passed-few : AtRest s → (i : ℕ) (seen : List ℕ) → Passing i seen → length (oldest [] (still i)) + length (younger [] (still i)) ≤ 4096
  passed-few rest i seen so = omega (arith, moved_all [] (still i), standing-few held s.dropped i so.within, so.within, rest.consistent.core.within.in_all)

  -- entry i is held, or not
  module _ (i : ℕ) (q : i < length s.dropped) (r : LinkNote) (is : NoteOf s (get_or s.dropped i (note 0 0 0)) r) where
    pub still-not : held (id_of r.id) ≡ false → still (i + 1) ≡ still i
    still-not e = stands-not held s.dropped i q (ap (λ (m : Note). held m.id) is.same ∙ e)

  -- entry i is read
  module _ (rest : AtRest s) (few : length s.links ≤ 32) (i : ℕ) (seen : List ℕ) (so : Passing i seen) (q : i < length s.dropped) (r : LinkNote)
      (is : NoteOf s (get_or s.dropped i (note 0 0 0)) r) where
    pub entry : Read held (keys s.links) s.dropped i seen r.link (id_of r.id) r.round.0
    entry = record {
      up = up_of (keys s.links) rest.consistent.core.links_up;
      few = omega (arith, few, length-map s.links (λ e. e.key));
      here = q;
      counts = so.counts;
      there = omega (arith, is.below, length-map s.links (λ e. e.key));
      same = is.same;
    }

    pub link-low : r.link < 32
    link-low = omega (arith, is.below, few)

    pub seen-small : get_or seen r.link 0 < 65535
    seen-small = omega (arith, seen_few entry, so.within, rest.consistent.core.within.in_all)

    pub passing-skip : held (id_of r.id) ≡ false → Passing (i + 1) seen
    passing-skip e = record { within = omega arith; counts = subst (λ (ns : List Note). Counts (keys s.links) seen ns) (sym (gone entry e)) so.counts }

    pub passing-more : held (id_of r.id) ≡ true → (new : List ℕ) → new ≡ set seen r.link (get_or seen r.link 0 + 1) → Passing (i + 1) new
    passing-more e new n = record { within = omega arith; counts = subst (λ (l : List ℕ). Counts (keys s.links) l (still (i + 1))) (sym n) (counted entry e) }

some : {A : Type 0} (l : List A) → ltb 0 (length l) ≡ not (is_empty l)
some [] = refl
some (x ∷ l) = lt-ltb 0 (length (x ∷ l)) (omega arith)

filled : {A : Type 0} (l : List A) → 0 < length l → not (is_empty l) ≡ true
filled [] q = absurd (omega arith)
filled (x ∷ l) q = refl

-- what a first event leaves of the record, once it has evicted
module _ (now : ℕ) (s : State) where
  abbrev t : State
  t = settled now s

  abbrev pub held_then : ℕ → Bool
  held_then x = holds x t.cache

  same-dropped : t.dropped ≡ s.dropped
  same-dropped = settled-as now s (λ (u : State). u.dropped) refl

  same-queue : t.queue ≡ s.queue
  same-queue = settled-as now s (λ (u : State). u.queue) refl

  cached-all : still_cached t ≡ filter (λ n. held_then n.id) s.dropped
  unfolding still_cached
  cached-all = ap (filter (λ (n : Note). held_then n.id)) same-dropped

  -- all of them, once all rows are passed
  pub still-end : (i : ℕ) → length s.dropped ≤ i → still held_then s i ≡ still_cached t
  still-end i q = still-all held_then s i q ∙ sym cached-all

  cached-few : length (still_cached t) ≤ length s.dropped
  cached-few = omega (arith, ap length cached-all, length-filter (λ n. held_then n.id) s.dropped, count-length (λ n. held_then n.id) s.dropped)

  -- what moves is no more than the record holds
  pub moved-few : length (oldest [] (still_cached t)) ≤ length s.dropped
  moved-few = omega (arith, moved_all [] (still_cached t), cached-few)

  -- a queue stands where one stood, or where something moves to it
  module _ (q m : ℕ) (before : q ≡ length s.queue) (moves' : m ≡ length (oldest [] (still_cached t))) where
    queue-told : ltb 0 (q + m) ≡ queue_stands t
    queue-told =
        ap (ltb 0) ((λ k. before k + moves' k) ∙ ap (λ (n : ℕ). n + length (oldest [] (still_cached t))) (ap length (sym same-queue)) ∙ sym (length-append t.queue (oldest [] (still_cached t))))
        ∙ some (t.queue ++ oldest [] (still_cached t))

    pub queue-before : 0 < q → ltb 0 q ≡ queue_stands t
    queue-before h = lt-ltb 0 q h ∙ sym (lt-ltb 0 (q + m) (omega (arith, h))) ∙ queue-told

    pub queue-moved : q ≡ 0 → ltb 0 m ≡ queue_stands t
    queue-moved z = ap (ltb 0) (let e : m ≡ q + m = omega (arith, z) in e) ∙ queue-told

  -- a record does where something is left
  pub record-told : (y : ℕ) → y ≡ length (younger [] (still_cached t)) → ltb 0 y ≡ record_stands t
  record-told y e = ap (ltb 0) e ∙ some (younger [] (still_cached t))

  -- the numbers of entries
  after-sized : sized_queued (length t.queue + length (oldest [] (still_cached t))) (sized_recorded (length (younger [] (still_cached t))) (sizes_of t)) ≡ sizes_of (announce_state t)
  unfolding announce_sizes
  after-sized =
      let run : Run = begin t zero_counts [] in
      sym (announce-sizes run) ∙ ap sizes_of (announce-state run)

  pub sized-moved : (z : Sizes) → z ≡ sizes_of t → (m y : ℕ) → m ≡ length (oldest [] (still_cached t)) → y ≡ length (younger [] (still_cached t)) → sized_queued (z.queued + m) (sized_recorded y z) ≡ sizes_of (announce_state t)
  unfolding sizes_of
  sized-moved z w m y em ey = (λ k. sized_queued (ap (λ (x : Sizes). x.queued) w k + em k) (sized_recorded (ey k) (w k))) ∙ after-sized

  pub queued-of : (z : CodeSizes) → sizes_value z ≡ sizes_of t → z.queued ≡ length s.queue
  unfolding sizes_of
  queued-of z w = ap (λ (y : Sizes). y.queued) w ∙ ap length same-queue

  -- the actions
  pub stands-bytes : (b c : Bool) → b ≡ queue_stands t → c ≡ record_stands t
      → announce_bytes t ≡ concat_map action_bytes (if b then dispatch_action s else []) ++ concat_map action_bytes (announce_action c false)
  unfolding announce_actions dispatch_action
  stands-bytes b c eb ec =
      (λ k. concat_map action_bytes ((if is_empty (t.queue ++ oldest [] (still_cached t)) then [] else same-action k) ++ announce_action (sym ec k) false))
      ∙ concat-append action_bytes (if is_empty (t.queue ++ oldest [] (still_cached t)) then [] else dispatch_action s) (announce_action c false)
      ∙ ap (λ (acts : List Action). concat_map action_bytes acts ++ concat_map action_bytes (announce_action c false)) (turned (is_empty (t.queue ++ oldest [] (still_cached t))) b eb)
    where
      same-action : dispatch_action t ≡ dispatch_action s
      same-action = settled-as now s dispatch_action refl

      turned : (e b : Bool) → b ≡ not e → (if e then [] else dispatch_action s) ≡ (if b then dispatch_action s else [])
      turned true b h = sym (ap (λ (x : Bool). if x then dispatch_action s else []) h)
      turned false b h = sym (ap (λ (x : Bool). if x then dispatch_action s else []) h)

-- the dispatch timer's bytes, if a queue stands
abbrev pub queue_bytes : State → Bool → List ℕ
queue_bytes s b = concat_map action_bytes (if b then dispatch_action s else [])

pub none-after : (s : State) (h : Intake) → h ≡ after (queue_bytes s false) h
unfolding concat_map
none-after s h = sym (after_nil h)

-- the step: queue and record after the first i rows

-- question 13 of the queue
queue-fits : (s : State) → fits (announce_state s) ≡ true → length (s.queue ++ oldest [] (still_cached s)) ≤ s.limits.Q
unfolding fits announce_state
queue-fits s h = leb-true (length (s.queue ++ oldest [] (still_cached s))) s.limits.Q (search (and_left, and_right) depth 25)

abbrev pub held_now : State → ℕ → Bool
held_now s x = holds x s.cache

-- of the first i rows of s, the oldest are behind the queue, the younger in the record's first places
abbrev pub passed_by : State → ℕ → State → State
passed_by s i t = with_dropped (put 0 (younger [] (still (held_now s) s i)) t.dropped) (with_queue (t.queue ++ oldest [] (still (held_now s) s i)) t)

module _ (s : State) (asks : Allowed announce_state s) where
  abbrev ds : List Note
  ds = s.dropped

  abbrev so_far : ℕ → List Note
  so_far i = still (held_now s) s i

  pub move-start : s ≡ passed_by s 0 s
  unfolding filter oldest younger
  move-start = sym (λ t. with_dropped (put-nil 0 s.dropped t) (with_queue (append-nil s.queue t) s))

  module _ (i : ℕ) (q : State) (so : q ≡ passed_by s i s) (within : i ≤ length s.dropped) where
    -- those that stay are no more than those passed
    pub kept-few : length (younger [] (so_far i)) ≤ i
    kept-few = omega (arith, younger-few (so_far i), standing-few (held_now s) ds i within)

    pub same-rows : length q.dropped ≡ length s.dropped
    same-rows = ap (λ (t : State). length t.dropped) so ∙ length-put 0 (younger [] (so_far i)) ds (omega (arith, kept-few, within))

    pub same-links : length q.links ≡ length s.links
    same-links = ap (λ (t : State). length t.links) so

    -- what is read of the cache and of a row is what stood there at entry
    pub cached-in : (id : ℕ) → holds id q.cache ≡ holds id s.cache
    cached-in id = ap (λ (t : State). holds id t.cache) so

    pub row-in : (r : LinkNote) → NoteOf q (get_or q.dropped i (note 0 0 0)) r → NoteOf s (get_or s.dropped i (note 0 0 0)) r
    row-in r is = record {
      below = omega (arith, is.below, same-links);
      same = sym (get_or-put-after 0 i (note 0 0 0) (younger [] (so_far i)) ds (omega (arith, kept-few)) zero-le)
          ∙ sym (ap (λ (t : State). get_or t.dropped i (note 0 0 0)) so)
          ∙ is.same
          ∙ ap (λ (t : State). note_for t r.link (id_of r.id) r.round.0) so;
    }

    -- a row that is not cached
    pub move-skip : so_far (i + 1) ≡ so_far i → q ≡ passed_by s (i + 1) s
    move-skip same = so ∙ sym (λ t. with_dropped (put 0 (younger [] (same t)) ds) (with_queue (s.queue ++ oldest [] (same t)) s))

    module _ (seen : List ℕ) (r : LinkNote) (read : Read (held_now s) (keys s.links) ds i seen r.link (id_of r.id) r.round.0) (is : NoteOf s (get_or s.dropped i (note 0 0 0)) r) (e : held_now s (id_of r.id) ≡ true) where
      abbrev n : Note
      n = get_or ds i (note 0 0 0)

      -- one of the oldest
      module _ (m : get_or seen r.link 0 < 64) where
        pub move-room : length q.queue < q.limits.Q
        unfolding still_cached
        move-room =
            omega (
              arith,
              ap (λ (t : State). length t.queue) so,
              ap (λ (t : State). t.limits.Q) so,
              length-append s.queue (oldest [] (so_far i)),
              length-append (oldest [] (so_far i)) (n ∷ []),
              ap length (moves read e m),
              oldest-within (held_now s) ds (i + 1),
              length-append s.queue (oldest [] (still_cached s)),
              queue-fits s asks.fits,
            )

        pub move-take : queue_also r.link (id_of r.id) r.round.0 q ≡ passed_by s (i + 1) s
        move-take =
            let behind : (s.queue ++ oldest [] (so_far i)) ++ (note_for s r.link (id_of r.id) r.round.0 ∷ []) ≡ s.queue ++ oldest [] (so_far (i + 1)) =
            append_assoc s.queue (oldest [] (so_far i)) (note_for s r.link (id_of r.id) r.round.0 ∷ [])
            ∙ ap (λ (x : Note). s.queue ++ (oldest [] (so_far i) ++ (x ∷ []))) (sym is.same)
            ∙ ap (λ (ns : List Note). s.queue ++ ns) (sym (moves read e m)) in
            ap (queue_also r.link (id_of r.id) r.round.0) so
            ∙ (λ k. with_dropped (put 0 (sym (moves-alone read e m) k) ds) (with_queue (behind k) s))

        pub take-kept : younger [] (so_far (i + 1)) ≡ younger [] (so_far i)
        take-kept = moves-alone read e m

      -- a younger one
      module _ (k : ℕ) (kept : k ≡ length (younger [] (so_far i))) (m : 64 ≤ get_or seen r.link 0) where
        pub keep-room : i < length s.dropped → k < length q.dropped
        keep-room low = omega (arith, same-rows, kept-few, kept, low)

        pub move-keep : i < length s.dropped → drop_instead k r.link (id_of r.id) r.round.0 q ≡ passed_by s (i + 1) s
        move-keep low =
            let first : put k (note_for s r.link (id_of r.id) r.round.0 ∷ []) (put 0 (younger [] (so_far i)) ds) ≡ put 0 (younger [] (so_far (i + 1))) ds =
            ap (λ (x : Note). put k (x ∷ []) (put 0 (younger [] (so_far i)) ds)) (sym is.same)
            ∙ put-put-next 0 k (younger [] (so_far i)) (n ∷ []) ds (omega (arith, kept)) (omega (arith, kept-few, kept, low))
            ∙ ap (λ (ns : List Note). put 0 ns ds) (sym (stays read e m)) in
            ap (drop_instead k r.link (id_of r.id) r.round.0) so
            ∙ (λ j. with_dropped (first j) (with_queue (s.queue ++ sym (stays-alone read e m) j) s))

        pub keep-kept : k + 1 ≡ length (younger [] (so_far (i + 1)))
        keep-kept = omega (arith, kept, ap length (stays read e m), length-append (younger [] (so_far i)) (n ∷ []))

    -- the record's first rows are what is left
    pub move-end : (k : ℕ) → k ≡ length (younger [] (so_far i)) → length s.dropped ≤ i → record_cut k q ≡ moved_state s
    unfolding moved_state still_cached part
    move-end k kept e =
        let all : so_far i ≡ still_cached s = still-all (held_now s) s i e in
        let first : take k (put 0 (younger [] (so_far i)) ds) ≡ younger [] (so_far i) = part-put 0 k (younger [] (so_far i)) ds (sym kept) (omega (arith, kept-few, kept, within)) in
        ap (record_cut k) so
        ∙ (λ t. with_dropped (first t) (with_queue (s.queue ++ oldest [] (so_far i)) s))
        ∙ (λ t. with_dropped (younger [] (all t)) (with_queue (s.queue ++ oldest [] (all t)) s))

-- of a record with no rows nothing is cached
pub none-cached : (s : State) (c : StillCached) → length s.dropped ≡ 0 → c.moved ≡ 0 → c.left ≡ 0 → StillCachedOf s c
unfolding still_cached oldest younger filter
none-cached s c none m y =
    let no : s.dropped ≡ [] = nil_from_length s.dropped none in
    record {
      rows = record { told = record { each = λ row h. absurd (omega (arith, h, none)) }; long = omega (arith, none) };
      moved = m ∙ ap (λ (ns : List Note). length (oldest [] (filter (λ n. holds n.id s.cache) ns))) (sym no);
      left = y ∙ ap (λ (ns : List Note). length (younger [] (filter (λ n. holds n.id s.cache) ns))) (sym no);
    }

-- the flags

module _ (s : State) where
  pub flags-some : 0 < length (moved_state s).queue → flagged (with_dispatch_scheduled true (with_announce_scheduled false (moved_state s))) ≡ announce_state s
  unfolding moved_state announce_state
  flags-some q =
      let some : not (is_empty (s.queue ++ oldest [] (still_cached s))) ≡ true = filled (s.queue ++ oldest [] (still_cached s)) q in
      (λ t. with_announce_scheduled (or-false (not (is_empty (younger [] (still_cached s)))) t) (with_dispatch_scheduled (true_or (not (is_empty (s.queue ++ oldest [] (still_cached s)))) s.timers.dispatch some t)
      (with_dropped (younger [] (still_cached s)) (with_queue (s.queue ++ oldest [] (still_cached s)) s))))
    where
      or-false : (b : Bool) → (b || false) ≡ b
      or-false true = refl
      or-false false = refl

      true_or : (a b : Bool) → a ≡ true → true ≡ (a || b)
      true_or true b e = refl
      true_or false b e = sym e ∙ true≢ e

  pub flags-none : length (moved_state s).queue ≡ 0 → flagged (with_announce_scheduled false (moved_state s)) ≡ announce_state s
  unfolding moved_state announce_state
  flags-none z =
      (λ t. with_announce_scheduled (or-false (not (is_empty (younger [] (still_cached s)))) t) (with_dispatch_scheduled (none_or (s.queue ++ oldest [] (still_cached s)) s.timers.dispatch z t)
      (with_dropped (younger [] (still_cached s)) (with_queue (s.queue ++ oldest [] (still_cached s)) s))))
    where
      or-false : (b : Bool) → (b || false) ≡ b
      or-false true = refl
      or-false false = refl

      none_or : (l : List Note) (b : Bool) → length l ≡ 0 → b ≡ (not (is_empty l) || b)
      none_or [] b e = refl
      none_or (x ∷ l) b e = absurd (omega arith)
