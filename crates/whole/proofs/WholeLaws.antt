-- Question 5 is the tests of the header's numbers and of the tables: each follows from the others.
-- Assumes nothing.
use Rattle.whole.proofs.Words.{◌≡◌, refl, sym, ap, ◌∙◌, subst, Bool, true, false, ◌&&◌, ◌||◌, List, [], ◌∷◌, map, ℕ, zero, suc, ◌*◌, ◌≤◌, zero-le, arith, leb-true, le-leb, eqb-true, eq-eqb, ne_eqb, leb, eqb, lit<, length, take, drop, take-take, if◌then◌else◌, Some, None, is_empty, all, ascending, cases, true≢, and_left, and_right, and_intro, rows, length-rows, refs, places, expiry_row_of, expiry_of, entry_of, cache_in, State, Limits, Note, size_in_range, durations_in_range, limits_in_range, block_need, content_held, neighbours, announcers_whole, grafts_whole, noted_once, record_within, tables, settings_of, limits_of, peer_of, missed_of, id_at, nothing_of, cached_of, grafts_of, Fit, Ceilings, WithinLimits, Head, count-links, count-peers, length-view, length-table, adjoin}
use lib.ListN.{length-map}
use Rattle.storage.specs.Lists.Map.{keys}
use Rattle.storage.specs.Rows.Part.{part}
use Rattle.storage.specs.Rows.Digits.{le_nat}
use Rattle.storage.proofs.RefsLaws.Places.{length-refs}
use Rattle.time_cache.specs.TimeCache.{expires_on_time, in_pop_order}
use Rattle.time_cache.specs.Tables.{expiry_rows, cache_of}
use Rattle.time_cache.proofs.TableLaws.{on-time}
use Rattle.protocol.specs.Whole.{cache_fits, fits, in_range, keys_once, flags_stand, whole}
use Rattle.block.specs.View.{state_of, note_of, notes_in, missing_in, timers_in, received_in, cached_in, grafted_in}
use Rattle.storage.specs.Refs.Numbers.{numbered}
use Rattle.block.specs.Header.{word_at, half_word_at, limits_in, head_in}
use Rattle.block.specs.declared.head.Live.{Live}
use Rattle.storage.proofs.RefsLaws.Numbered.{length-numbered}
use Rattle.whole.specs.Held.{has_header, has_tables, counts_within, all_below, places_name, numbers_name, all_lists, laid_out, holds_with, held, whole_held, whole_block}
use Rattle.whole.specs.Parts.{table_of, cache_whole, links_whole, received_whole, cached_whole, grafted_peers, grafted_whole, announcers, missing_whole, timers_whole, queue_whole, record_whole, tables_whole, flags_with, has_limits, head_whole}
use Rattle.whole.proofs.Tests.{conj, Each, each, from_each, picks, both_ways}
use Rattle.whole.specs.Opens.{OpensBlock}
use Rattle.whole.specs.declared.opened.Opened.{Opened}
use Rattle.whole.proofs.HeldLaws.{fit_of, ceilings_there, wholly_of}
use Rattle.whole.proofs.NumberLaws.{peers-neighbours}
use Rattle.whole.proofs.HopLaws.{pairs-map, take-few}

-- the threshold: its two low bytes are at most its eight
low-bytes : (k : ℕ) (bs : List ℕ) → le_nat (take k bs) ≤ le_nat bs
unfolding le_nat
low-bytes zero bs = zero-le
low-bytes (suc k) [] = zero-le
low-bytes (suc k) (b ∷ bs) = omega (arith, low-bytes k bs)

half-word : (at : ℕ) (xs : List ℕ) → half_word_at at xs ≤ word_at at xs
unfolding part
half-word at xs = subst (λ (n : ℕ). n ≤ word_at at xs) (ap le_nat (take-take 2 8 (drop at xs) (omega arith))) (low-bytes 2 (take 8 (drop at xs)))

-- so that of a state that is held is a round
pub held-round : (block : List ℕ) (s : State) → held block ≡ Some s → s.settings.optimization_threshold ≤ 65535
unfolding held has_header state_of
held-round block s e =
    cases (has_header block && holds_with (head_in block) block)
    (λ t. let a : Some (state_of (head_in block) block) ≡ Some s = rw t at e in
    let b : state_of (head_in block) block ≡ s = cc in
    let r : word_at 24 block ≤ 65535 =
    leb-true (word_at 24 block) 65535
    (and_right (leb 2048 (length block)) (leb (word_at 24 block) 65535) (and_left (has_header block) (holds_with (head_in block) block) t)) in
    subst (λ (x : State). x.settings.optimization_threshold ≤ 65535) b (omega (arith, half-word 24 block)))
    (λ t. let z : None ≡ Some s = rw t at e in absurd (none-some s z))
  where
    none-some : (x : State) → None ≡ Some x → ⊥
    none-some x z = let y : false ≡ true = cc in true≢ y

-- how many entries and expiry entries a cache has
module _ {A : Type 0} (value : List ℕ → List ℕ → A) (s n : ℕ) (e : List ℕ) (t m : ℕ) (x : List ℕ) where
  count_entries : length (cache_in value s n e t m x).entries ≡ n
  unfolding cache_of
  count_entries = length-map (refs s n e) (entry_of value (expiry_rows t m x)) ∙ length-refs s n e

  count-rows : length (expiry_rows t m x) ≡ m
  unfolding expiry_rows
  count-rows = length-map (rows t m x) expiry_row_of ∙ length-rows t m x

  count-expiry : length (cache_in value s n e t m x).expiry ≡ m
  unfolding cache_of
  count-expiry = length-map (expiry_rows t m x) expiry_of ∙ count-rows

  cache-fits : (limit : ℕ) → n ≤ limit → m ≤ 2 * limit → cache_fits limit (cache_in value s n e t m x) ≡ true
  unfolding cache_fits
  cache-fits limit h g =
      and_intro (le-leb (length (cache_in value s n e t m x).entries) limit (omega (arith, count_entries)))
      (le-leb (length (cache_in value s n e t m x).expiry) (2 * limit) (omega (arith, count-expiry)))

  -- "each cache entry has an expiry entry of its time", by the layout
  cache-on-time : places_name m s n e ≡ true → expires_on_time (cache_in value s n e t m x) ≡ true
  cache-on-time b = on-time value (refs s n e) (expiry_rows t m x) (subst (λ (k : ℕ). all_below k (places (refs s n e)) ≡ true) (sym count-rows) b)

empty-zero : {A : Type 0} (l : List A) → is_empty l ≡ eqb (length l) 0
empty-zero [] = sym (eq-eqb 0 0 refl)
empty-zero (x ∷ l) = sym (ne_eqb (suc (length l)) 0 (λ e. omega arith))

-- notes, and their peers
module _ (ps : List ℕ) (n : ℕ) (c b : List ℕ) where
  count-notes : n ≤ length c → length (notes_in ps n c b) ≡ n
  unfolding notes_in
  count-notes h = length-numbered (note_of ps) 34 n c b h

  note-peers : map (λ d. d.peer) (notes_in ps n c b) ≡ map (peer_of ps) (take n c)
  unfolding notes_in numbered note_of
  note-peers = pairs-map (note_of ps) (λ (d : Note). d.peer) (peer_of ps) (λ k r. refl) (take n c) (rows 34 n b) (omega (arith, take-few n c, length-rows 34 n b))

-- a header's numbers h with the block
module _ (h : Head) (xs : List ℕ) where
  abbrev l : Limits
  l = limits_of h.limits

  abbrev v : Live
  v = h.live

  abbrev s : State
  s = state_of h xs

  -- the tests of the state, of the layout, and of each table, in their order
  abbrev state_tests : List Bool
  state_tests =
      keys_once s
      ∷ neighbours s.links (map (λ n. n.peer) s.queue)
      ∷ neighbours s.links (map (λ n. n.peer) s.dropped)
      ∷ all (announcers_whole s.links) s.missing
      ∷ all (grafts_whole s.links) s.grafted.entries
      ∷ noted_once s.dropped
      ∷ record_within s.dropped
      ∷ expires_on_time s.received
      ∷ expires_on_time s.grafted
      ∷ expires_on_time s.cache
      ∷ in_pop_order s.received.expiry
      ∷ in_pop_order s.grafted.expiry
      ∷ in_pop_order s.cache.expiry
      ∷ flags_stand s
      ∷ []

  abbrev key_tests : List Bool
  key_tests =
      ascending (keys s.missing)
      ∷ ascending (keys s.received.entries)
      ∷ ascending (keys s.grafted.entries)
      ∷ ascending (keys s.cache.entries)
      ∷ ascending s.timers.graft
      ∷ []

  abbrev range_tests : List Bool
  range_tests = durations_in_range s.settings ∷ leb s.settings.optimization_threshold 65535 ∷ limits_in_range s.limits ∷ fits s ∷ []

  abbrev laid_tests : List Bool
  laid_tests =
      places_name v.cached_rows 4 v.cached (table_of h 4 xs)
      ∷ places_name v.grafted_rows 119 v.grafted (table_of h 7 xs)
      ∷ all_lists (numbers_name v.links) 22 119 v.grafted (table_of h 7 xs)
      ∷ all_lists (numbers_name v.links) 32 129 v.missing (table_of h 9 xs)
      ∷ all_below v.links (take v.queued (table_of h 11 xs))
      ∷ all_below v.links (take v.dropped (table_of h 13 xs))
      ∷ adjoin 0 (rows 48 v.cached_rows (table_of h 5 xs)) v.contents
      ∷ eqb (content_held s) v.contents
      ∷ []

  abbrev table_tests : List Bool
  table_tests =
      received_whole h xs ∷ cached_whole h xs ∷ grafted_whole h xs ∷ missing_whole h xs ∷ timers_whole h xs ∷ queue_whole h xs ∷ record_whole h xs ∷ []

  -- what the tables pass, test by test
  record Passed : Type 0 where
    links : ascending (keys s.links) ≡ true
    received_named : places_name v.received_rows 2 v.received (table_of h 2 xs) ≡ true
    received_up : ascending (keys s.received.entries) ≡ true
    received_order : in_pop_order s.received.expiry ≡ true
    cached_named : places_name v.cached_rows 4 v.cached (table_of h 4 xs) ≡ true
    cached_up : ascending (keys s.cache.entries) ≡ true
    cached_order : in_pop_order s.cache.expiry ≡ true
    adjoins : adjoin 0 (rows 48 v.cached_rows (table_of h 5 xs)) v.contents ≡ true
    adds_up : eqb (content_held s) v.contents ≡ true
    grafted_named : places_name v.grafted_rows 119 v.grafted (table_of h 7 xs) ≡ true
    grafted_up : ascending (keys s.grafted.entries) ≡ true
    grafted_order : in_pop_order s.grafted.expiry ≡ true
    grafted_lists : all_lists (numbers_name v.links) 22 119 v.grafted (table_of h 7 xs) ≡ true
    grafts : all (grafts_whole s.links) s.grafted.entries ≡ true
    missing_up : ascending (keys s.missing) ≡ true
    missing_lists : all_lists (numbers_name v.links) 32 129 v.missing (table_of h 9 xs) ≡ true
    announcers : all (announcers_whole s.links) s.missing ≡ true
    timers : ascending s.timers.graft ≡ true
    queue_named : all_below v.links (take v.queued (table_of h 11 xs)) ≡ true
    record_named : all_below v.links (take v.dropped (table_of h 13 xs)) ≡ true
    record_few : record_within s.dropped ≡ true
    record_once : noted_once s.dropped ≡ true

  -- from the tests of the tables
  passed-of : tables_whole h xs ≡ true → Passed
  unfolding tables_whole links_whole received_whole cached_whole grafted_whole missing_whole timers_whole queue_whole record_whole cache_whole
  passed-of a =
      let t = picks (links_whole h xs) table_tests a in
      let r = picks (places_name v.received_rows 2 v.received (table_of h 2 xs)) (ascending (keys s.received.entries) ∷ in_pop_order s.received.expiry ∷ []) (t 1) in
      let c = picks (places_name v.cached_rows 4 v.cached (table_of h 4 xs))
      (ascending (keys s.cache.entries) ∷ in_pop_order s.cache.expiry ∷ adjoin 0 (rows 48 v.cached_rows (table_of h 5 xs)) v.contents ∷ eqb (content_held s) v.contents ∷ []) (t 2) in
      let g = picks (places_name v.grafted_rows 119 v.grafted (table_of h 7 xs))
      (ascending (keys s.grafted.entries) ∷ in_pop_order s.grafted.expiry ∷ grafted_peers h xs ∷ []) (t 3) in
      let gp = picks (all_lists (numbers_name v.links) 22 119 v.grafted (table_of h 7 xs)) (all (grafts_whole s.links) s.grafted.entries ∷ []) (g 3) in
      let m = picks (ascending (keys s.missing)) (announcers h xs ∷ []) (t 4) in
      let ma = picks (all_lists (numbers_name v.links) 32 129 v.missing (table_of h 9 xs)) (all (announcers_whole s.links) s.missing ∷ []) (m 1) in
      let d = picks (all_below v.links (take v.dropped (table_of h 13 xs))) (record_within s.dropped ∷ noted_once s.dropped ∷ []) (t 7) in
      record {
        links = t 0;
        received_named = r 0;
        received_up = r 1;
        received_order = r 2;
        cached_named = c 0;
        cached_up = c 1;
        cached_order = c 2;
        adjoins = c 3;
        adds_up = c 4;
        grafted_named = g 0;
        grafted_up = g 1;
        grafted_order = g 2;
        grafted_lists = gp 0;
        grafts = gp 1;
        missing_up = m 0;
        missing_lists = ma 0;
        announcers = ma 1;
        timers = t 5;
        queue_named = t 6;
        record_named = d 0;
        record_few = d 1;
        record_once = d 2;
      }

  of-passed : Passed → tables_whole h xs ≡ true
  unfolding tables_whole links_whole received_whole cached_whole grafted_whole missing_whole timers_whole queue_whole record_whole cache_whole
  of-passed p =
      let r : received_whole h xs ≡ true = and_intro (and_intro p.received_named p.received_up) p.received_order in
      let c : cached_whole h xs ≡ true = and_intro (and_intro (and_intro (and_intro p.cached_named p.cached_up) p.cached_order) p.adjoins) p.adds_up in
      let g : grafted_whole h xs ≡ true = and_intro (and_intro (and_intro p.grafted_named p.grafted_up) p.grafted_order) (and_intro p.grafted_lists p.grafts) in
      let m : missing_whole h xs ≡ true = and_intro p.missing_up (and_intro p.missing_lists p.announcers) in
      let d : record_whole h xs ≡ true = and_intro (and_intro p.record_named p.record_few) p.record_once in
      from_each (links_whole h xs) table_tests (p.links, (r, (c, (g, (m, (p.timers, (p.queue_named, (d, tt))))))))

  -- from the state and the layout
  passed-state : laid_out h (tables l xs) ≡ true → whole s ≡ true → Passed
  unfolding laid_out whole keys_once state_of
  passed-state a w =
      let p = picks (places_name v.received_rows 2 v.received (table_of h 2 xs)) laid_tests a in
      let q = picks (in_range s) state_tests w in
      let k = picks (ascending (keys s.links)) key_tests (q 1) in
      record {
        links = k 0;
        received_named = p 0;
        received_up = k 2;
        received_order = q 11;
        cached_named = p 1;
        cached_up = k 4;
        cached_order = q 13;
        adjoins = p 7;
        adds_up = p 8;
        grafted_named = p 2;
        grafted_up = k 3;
        grafted_order = q 12;
        grafted_lists = p 3;
        grafts = q 5;
        missing_up = k 1;
        missing_lists = p 4;
        announcers = q 4;
        timers = k 5;
        queue_named = p 5;
        record_named = p 6;
        record_few = q 7;
        record_once = q 6;
      }

  laid-passed : Passed → laid_out h (tables l xs) ≡ true
  unfolding laid_out state_of
  laid-passed p =
      from_each (places_name v.received_rows 2 v.received (table_of h 2 xs)) laid_tests
      (p.received_named, (p.cached_named, (p.grafted_named, (p.grafted_lists, (p.missing_lists, (p.queue_named, (p.record_named, (p.adjoins, (p.adds_up, tt)))))))))

  module _ (fit : Fit h xs) where
    queue_long : v.queued ≤ length (table_of h 11 xs)
    queue_long = omega (arith, fit.within.queued, length-table l 11 xs (lit< tt) fit.long)

    record-long : v.dropped ≤ length (table_of h 13 xs)
    record-long = omega (arith, fit.within.dropped, length-table l 13 xs (lit< tt) fit.long)

    queue-count : length s.queue ≡ v.queued
    unfolding state_of
    queue-count = count-notes (keys s.links) v.queued (table_of h 11 xs) (table_of h 12 xs) queue_long

    record-count : length s.dropped ≡ v.dropped
    unfolding state_of
    record-count = count-notes (keys s.links) v.dropped (table_of h 13 xs) (table_of h 14 xs) record-long

    missing-count : length s.missing ≡ v.missing
    unfolding state_of missing_in
    missing-count = length-view (missed_of (keys s.links)) 129 v.missing (table_of h 9 xs)

    timers-count : length s.timers.graft ≡ v.timers
    unfolding state_of timers_in
    timers-count = length-view (id_at 0) 32 v.timers (table_of h 10 xs)

    -- "numbers of entries in range"
    state-fits : Passed → fits s ≡ true
    unfolding fits state_of received_in cached_in grafted_in
    state-fits p =
        let w : WithinLimits l v = fit.within in
        from_each (leb (length s.links) s.limits.N)
        (cache_fits s.limits.R s.received
        ∷ cache_fits s.limits.C s.cache
        ∷ leb (content_held s) s.limits.B
        ∷ cache_fits s.limits.G s.grafted
        ∷ leb (length s.missing) s.limits.S
        ∷ leb (length s.timers.graft) s.limits.T
        ∷ leb (length s.queue) s.limits.Q
        ∷ leb (length s.dropped) s.limits.D
        ∷ []) (
          le-leb (length s.links) l.N (omega (arith, count-links h xs, w.links)),
          (
            cache-fits nothing_of 2 v.received (table_of h 2 xs) 40 v.received_rows (table_of h 3 xs) l.R w.received w.received_rows,
            (
              cache-fits (cached_of (table_of h 6 xs)) 4 v.cached (table_of h 4 xs) 48 v.cached_rows (table_of h 5 xs) l.C w.cached w.cached_rows,
              (
                le-leb (content_held s) l.B (omega (arith, eqb-true (content_held s) v.contents p.adds_up, w.contents)),
                (
                  cache-fits (grafts_of (keys s.links)) 119 v.grafted (table_of h 7 xs) 40 v.grafted_rows (table_of h 8 xs) l.G w.grafted w.grafted_rows,
                  (
                    le-leb (length s.missing) l.S (omega (arith, missing-count, w.missing)),
                    (
                      le-leb (length s.timers.graft) l.T (omega (arith, timers-count, w.timers)),
                      (
                        le-leb (length s.queue) l.Q (omega (arith, queue-count, w.queued)),
                        (le-leb (length s.dropped) l.D (omega (arith, record-count, w.dropped)), tt),
                      ),
                    ),
                  ),
                ),
              ),
            ),
          ),
        )

    -- "a queue or record stands only with its flag", by the header's numbers
    flags-told : flags_stand s ≡ flags_with v
    unfolding flags_stand flags_with state_of
    flags-told =
        let q : is_empty s.queue ≡ eqb v.queued 0 = empty-zero s.queue ∙ ap (λ (n : ℕ). eqb n 0) queue-count in
        let d : is_empty s.dropped ≡ eqb v.dropped 0 = empty-zero s.dropped ∙ ap (λ (n : ℕ). eqb n 0) record-count in
        λ k. (q k || v.dispatch_timer_scheduled) && (d k || v.announce_dropped_scheduled)

    -- "queued, dropped .. peers are neighbours", by the layout
    note-neighbours : Passed → (n : ℕ) (c b : List ℕ) → all_below v.links (take n c) ≡ true
        → neighbours s.links (map (λ d. d.peer) (notes_in (keys s.links) n c b)) ≡ true
    note-neighbours p n c b low =
        ap (neighbours s.links) (note-peers (keys s.links) n c b)
        ∙ peers-neighbours s.links p.links (take n c) (subst (λ (m : ℕ). all_below m (take n c) ≡ true) (sym (count-peers h xs)) low)

    state-whole : Passed → size_in_range (settings_of h.settings) ≡ true → durations_in_range (settings_of h.settings) ≡ true
        → h.settings.config.optimization_threshold.0 ≤ 65535 → limits_in_range l ≡ true → flags_with v ≡ true → whole s ≡ true
    unfolding whole in_range keys_once state_of received_in cached_in grafted_in
    state-whole p size durations round limits flags =
        let range : in_range s ≡ true =
        from_each (size_in_range s.settings) range_tests
        (size, (durations, (le-leb h.settings.config.optimization_threshold.0 65535 round, (limits, (state-fits p, tt))))) in
        let once : keys_once s ≡ true =
        from_each (ascending (keys s.links)) key_tests (p.links, (p.missing_up, (p.received_up, (p.grafted_up, (p.cached_up, (p.timers, tt)))))) in
        let received : expires_on_time s.received ≡ true =
        cache-on-time nothing_of 2 v.received (table_of h 2 xs) 40 v.received_rows (table_of h 3 xs) p.received_named in
        let grafted : expires_on_time s.grafted ≡ true =
        cache-on-time (grafts_of (keys s.links)) 119 v.grafted (table_of h 7 xs) 40 v.grafted_rows (table_of h 8 xs) p.grafted_named in
        let cached : expires_on_time s.cache ≡ true =
        cache-on-time (cached_of (table_of h 6 xs)) 4 v.cached (table_of h 4 xs) 48 v.cached_rows (table_of h 5 xs) p.cached_named in
        from_each (in_range s) state_tests (
          range,
          (
            once,
            (
              note-neighbours p v.queued (table_of h 11 xs) (table_of h 12 xs) p.queue_named,
              (
                note-neighbours p v.dropped (table_of h 13 xs) (table_of h 14 xs) p.record_named,
                (
                  p.announcers,
                  (
                    p.grafts,
                    (
                      p.record_once,
                      (
                        p.record_few,
                        (
                          received,
                          (
                            grafted,
                            (
                              cached,
                              (
                                p.received_order,
                                (
                                  p.grafted_order,
                                  (
                                    p.cached_order,
                                    (flags-told ∙ flags, tt),
                                  ),
                                ),
                              ),
                            ),
                          ),
                        ),
                      ),
                    ),
                  ),
                ),
              ),
            ),
          ),
        )

-- the tests of the code, in their order
abbrev first_test : List ℕ → Bool
first_test xs = leb 2048 (length xs)

abbrev later_tests : Head → List ℕ → List Bool
later_tests h xs =
    leb (word_at 24 xs) 65535
    ∷ limits_in_range (limits_of h.limits)
    ∷ leb (block_need (limits_of h.limits)) (length xs)
    ∷ counts_within (limits_of h.limits) h.live
    ∷ size_in_range (settings_of h.settings)
    ∷ durations_in_range (settings_of h.settings)
    ∷ flags_with h.live
    ∷ tables_whole h xs
    ∷ []

module _ (xs : List ℕ) where
  abbrev g : Head
  g = head_in xs

  tests-whole : Each (first_test xs ∷ later_tests g xs) → whole_block xs ≡ true
  unfolding whole_block whole_held held has_header holds_with has_tables
  tests-whole e =
      let header : has_header xs ≡ true = and_intro e.0 e.1.0 in
      let limits : limits_in_range (limits_of g.limits) ≡ true = e.1.1.0 in
      let has : has_tables (limits_of g.limits) xs ≡ true = and_intro limits e.1.1.1.0 in
      let counts : counts_within (limits_of g.limits) g.live ≡ true = e.1.1.1.1.0 in
      let fit : Fit g xs = fit_of g xs has counts in
      let p : Passed g xs = passed-of g xs e.1.1.1.1.1.1.1.1.0 in
      let holds : holds_with g xs ≡ true = and_intro (and_intro has counts) (laid-passed g xs p) in
      let round : half_word_at 24 xs ≤ 65535 = omega (arith, half-word 24 xs, leb-true (word_at 24 xs) 65535 e.1.0) in
      ap (λ (t : Bool). whole_held (if t then Some (state_of g xs) else None)) (and_intro header holds)
      ∙ state-whole g xs fit p e.1.1.1.1.1.0 e.1.1.1.1.1.1.0 round limits e.1.1.1.1.1.1.1.0

  whole-tests : whole_block xs ≡ true → Each (first_test xs ∷ later_tests g xs)
  unfolding has_header holds_with has_tables whole in_range state_of
  whole-tests w =
      let e = wholly_of xs w in
      let header = each (leb 2048 (length xs)) (leb (word_at 24 xs) 65535 ∷ []) e.header in
      let holds = each (limits_in_range (limits_of g.limits) && leb (block_need (limits_of g.limits)) (length xs)) (counts_within (limits_of g.limits) g.live ∷ laid_out g (tables (limits_of g.limits) xs) ∷ []) e.holds in
      let has = each (limits_in_range (limits_of g.limits)) (leb (block_need (limits_of g.limits)) (length xs) ∷ []) holds.0 in
      let q = picks (in_range (state_of g xs)) (state_tests g xs) e.whole in
      let r = picks (size_in_range (state_of g xs).settings) (range_tests g xs) (q 0) in
      let fit : Fit g xs = fit_of g xs holds.0 holds.1.0 in
      let flags : flags_with g.live ≡ true = sym (flags-told g xs fit) ∙ q 14 in
      let tabled : tables_whole g xs ≡ true = of-passed g xs (passed-state g xs holds.1.1.0 e.whole) in
      (header.0, (header.1.0, (has.0, (has.1.0, (holds.1.0, (r 0, (r 1, (flags, (tabled, tt)))))))))

-- the first two tests are those of the header, the next two those of the tables' places
regroup : (a b c d e f g i t : Bool) → (a && b && (c && d && e && f && g && i && t)) ≡ (a && b && c && d && e && f && g && i && t)
regroup true true c d e f g i t = refl
regroup true false c d e f g i t = refl
regroup false b c d e f g i t = refl

-- question 5 is the tests of the code
told : (xs : List ℕ) → (has_header xs && head_whole (head_in xs) xs) ≡ whole_block xs
unfolding has_header has_tables head_whole
told xs =
    let h : Head = head_in xs in
    let l : Limits = limits_of h.limits in
    regroup (first_test xs) (leb (word_at 24 xs) 65535) (limits_in_range l) (leb (block_need l) (length xs)) (counts_within l h.live)
    (size_in_range (settings_of h.settings)) (durations_in_range (settings_of h.settings)) (flags_with h.live) (tables_whole h xs)
    ∙ both_ways (conj (first_test xs) (later_tests h xs)) (whole_block xs) (λ p. tests-whole xs (each (first_test xs) (later_tests h xs) p))
    (λ w. from_each (first_test xs) (later_tests h xs) (whole-tests xs w))

pub no_header : (xs : List ℕ) → has_header xs ≡ false → whole_block xs ≡ false
no_header xs e = sym (told xs) ∙ ap (λ (t : Bool). t && head_whole (head_in xs) xs) e

-- a header that is there has its bytes
pub header_long : (xs : List ℕ) → has_header xs ≡ true → 2048 ≤ length xs
unfolding has_header
header_long xs e = leb-true 2048 (length xs) (and_left (leb 2048 (length xs)) (leb (word_at 24 xs) 65535) e)

-- a block without its limits is not whole
pub no_limits : (xs : List ℕ) → has_limits xs ≡ false → whole_block xs ≡ false
unfolding has_limits head_whole
no_limits xs e =
    cases (has_header xs)
    (λ h. sym (told xs) ∙ rw (h, ap (λ (t : Bool). t && has_tables (limits_of (limits_in xs)) xs) (sym h) ∙ e) refl)
    (λ h. no_header xs h)

-- one that has its limits has a header, and they are within the ceilings
limits-header : (xs : List ℕ) → has_limits xs ≡ true → has_header xs ≡ true
unfolding has_limits
limits-header xs e = and_left (has_header xs) (has_tables (limits_of (limits_in xs)) xs) e

pub limits_tables : (xs : List ℕ) → has_limits xs ≡ true → has_tables (limits_of (limits_in xs)) xs ≡ true
unfolding has_limits
limits_tables xs e = and_right (has_header xs) (has_tables (limits_of (limits_in xs)) xs) e

pub limits_long : (xs : List ℕ) → has_limits xs ≡ true → 2048 ≤ length xs
limits_long xs e = header_long xs (limits-header xs e)

pub limits_ceilings : (h : Head) (xs : List ℕ) → h ≡ head_in xs → has_limits xs ≡ true → Ceilings (limits_of h.limits)
limits_ceilings h xs q e = subst (λ (g : Head). Ceilings (limits_of g.limits)) (sym q) (ceilings_there (limits_of (limits_in xs)) xs (limits_tables xs e))

-- of a block that was opened
pub opened_tables : (o : Opened) (xs : List ℕ) → OpensBlock o xs → has_tables (limits_of o.head.limits) xs ≡ true
opened_tables o xs p = subst (λ (g : Head). has_tables (limits_of g.limits) xs ≡ true) (sym p.head) (limits_tables xs p.limits)

pub opened_told : (o : Opened) (xs : List ℕ) → OpensBlock o xs → head_whole o.head xs ≡ whole_block xs
opened_told o xs p =
    ap (λ (g : Head). head_whole g xs) p.head
    ∙ sym (ap (λ (t : Bool). t && head_whole (head_in xs) xs) (limits-header xs p.limits)) ∙ told xs
