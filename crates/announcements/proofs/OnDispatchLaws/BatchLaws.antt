-- The links one after the other: the record after the first i, and at the end that of the whole dispatch.
-- Assumes nothing.
use Rattle.announcements.proofs.Words.{◌≡◌, ℕ, zero, suc, ◌+◌, ◌*◌, ◌≤◌, ◌<◌, length, sym, ◌∙◌, ap, refl, arith, Bool, true, false, List, [], ◌∷◌, ◌++◌, get_or, take, drop, map, min, add-one, All, ltb, Option, Some, None, leb, leb-true, leb-false, ltb-false, lt-ltb, le-mul_of_pos_right, drop_all, All-weaker, take-suc, Entry, keys, cases, Ihave, Mark, State, Note, Room, per_message, queued_for, queued_peers, Batch, add_notes, dispatch_batches, peer_at, AtRest, note_at, first-link, rooms_of}
use Rattle.std.proofs.lemmas.List.{length-map, map-append}
use Rattle.std.proofs.Math.Seq.{take_all}
use Rattle.std.specs.List.{drop-map}
use lib.Seq.{drop-nil}
use Rattle.time_cache.proofs.Orders.{up_of}
use Rattle.decide.specs.Rooms.{first_room}
use Rattle.decide.specs.RecordGrowth.{add_batches}
use Rattle.decide.specs.Pieces.{back_part}
use Rattle.decide.proofs.BackPart.{batches-parts}
use Rattle.decide.proofs.Dispatch.{queued-ascending}
use Rattle.steps.specs.Rooms.{room_at}
use Rattle.announcements.proofs.PerMessageLaws.{per-message}
use Rattle.steps.specs.declared.call.Call.{Call}
use Rattle.announcements.specs.QueuedRows.{ihave_of, ihaves_at}
use Rattle.announcements.proofs.OnDispatchLaws.LinkPeers.{batch_for, batches-among, nothing-queued, queued-among}
use Rattle.announcements.proofs.OnDispatchLaws.QueueLaws.{notes-none, queued-few}

-- behind the first n, of which there may be fewer
drop-min : (n : ℕ) (rows : List ℕ) → drop (min n (length rows)) rows ≡ drop n rows
drop-min n rows = by (leb n (length rows)) refl
  where
    by : (b : Bool) → leb n (length rows) ≡ b → drop (min n (length rows)) rows ≡ drop n rows
    by true t = let e : min n (length rows) ≡ n = omega (arith, leb-true n (length rows) t) in ap (λ (m : ℕ). drop m rows) e
    by false t =
        let w : length rows ≤ n = omega (arith, leb-false n (length rows) t) in
        let v : length rows ≤ min n (length rows) = omega (arith, w) in
        drop_all (min n (length rows)) rows v ∙ sym (drop_all n rows w)

-- batches one after the other
module _ (c : ℕ → Bool) where
  batches-append : (xs ys : List Batch) (ds : List Note) → add_batches c (xs ++ ys) ds ≡ add_batches c ys (add_batches c xs ds)
  unfolding add_batches
  batches-append [] ys ds = refl
  batches-append (x ∷ xs) ys ds = batches-append xs ys (add_notes c x.peer x.ihaves ds)

  batch-one : (b : Batch) (ds : List Note) → add_batches c (b ∷ []) ds ≡ add_notes c b.peer b.ihaves ds
  unfolding add_batches
  batch-one b ds = refl

  batch-none : (ds : List Note) → add_batches c [] ds ≡ ds
  unfolding add_batches
  batch-none ds = refl

-- what comes back of a room's number
back_none : (room k : ℕ) (hs : List Ihave) → 1 ≤ k → length hs ≤ room → back_part (room_at room) k hs ≡ []
unfolding back_part room_at
back_none room k hs one w = cases (ltb room 65536) (λ t. rw t (drop_all (room * k) hs long)) (λ t. rw t refl)
  where
    long : length hs ≤ room * k
    long = omega (arith, le-mul_of_pos_right room one)

back_some : (room k : ℕ) (hs : List Ihave) → room < 65536 → back_part (room_at room) k hs ≡ drop (room * k) hs
unfolding back_part room_at
back_some room k hs w = rw (lt-ltb room 65536 w) refl

module _ (s : State) where
  abbrev pub k : ℕ
  k = per_message s.settings.max_message_size

  -- the rows noted so far are for links before this one
  abbrev pub Earlier : ℕ → ℕ → Type 0
  Earlier l i = (j : ℕ) → l ≤ j → j < length s.links → (note_at s.queue i).peer < peer_at s j

module _ (held : ℕ → Bool) (call : Call) (s : State) where
  abbrev brought : List Room
  brought = rooms_of call s

  -- what the peer hands back
  abbrev pub back : ℕ → List Ihave
  back p = back_part (first_room p brought) (k s) (queued_for p s.queue)

  -- the record after the first i links
  abbrev pub after : ℕ → List Note
  after i = add_batches held (map (batch_for held back) (take i (keys s.links))) s.dropped

module _ (held : ℕ → Bool) (call : Call) (s : State) (rest : AtRest s) (few : length s.queue ≤ 8192) where
  one : 1 ≤ (k s)
  one = (per-message s rest.ranged).some

  keys-long : length (keys s.links) ≡ length s.links
  keys-long = length-map s.links (λ (e : Entry Mark). e.key)

  pub after-none : (after held call s) 0 ≡ s.dropped
  after-none = batch-none held s.dropped

  pub after-more : (i : ℕ) → i < length s.links → (after held call s) (i + 1) ≡ add_notes held (peer_at s i) ((back held call s) (peer_at s i)) ((after held call s) i)
  after-more i q =
      ap (λ (ps : List ℕ). add_batches held (map (batch_for held (back held call s)) ps) s.dropped) (ap (λ (n : ℕ). take n (keys s.links)) (add-one i) ∙ take-suc (keys s.links) i 0 (omega (arith, q, keys-long)))
      ∙ ap (λ (bs : List Batch). add_batches held bs s.dropped) (map-append (batch_for held (back held call s)) (take i (keys s.links)) (peer_at s i ∷ []))
      ∙ batches-append held (map (batch_for held (back held call s)) (take i (keys s.links))) (batch_for held (back held call s) (peer_at s i) ∷ []) s.dropped
      ∙ batch-one held (batch_for held (back held call s) (peer_at s i)) ((after held call s) i)

  back-empty : (o : Option ℕ) → back_part o (k s) [] ≡ []
  unfolding back_part
  back-empty None = refl
  back-empty (Some room) = drop-nil (room * (k s))

  -- all links are all peers for whom something is queued
  pub after-all : (i : ℕ) → length s.links ≤ i → (after held call s) i ≡ add_batches held (dispatch_batches (brought held call s) (queued_peers s.queue) (k s) s.queue) s.dropped
  after-all i q =
      ap (λ (ps : List ℕ). add_batches held (map (batch_for held (back held call s)) ps) s.dropped) (take_all i (keys s.links) (omega (arith, q, keys-long)))
      ∙ batches-among held (back held call s) (keys s.links) (queued_peers s.queue) rest.consistent.core.links_up (queued-ascending s.queue)
      (queued-among s.links s.queue rest.consistent.core.queued)
      (λ x m n. ap (back_part (first_room x (brought held call s)) (k s)) (nothing-queued x s.queue n) ∙ back-empty (first_room x (brought held call s)))
      s.dropped
      ∙ ap (λ (bs : List Batch). add_batches held bs s.dropped) (sym (batches-parts (brought held call s) (queued_peers s.queue) (k s) s.queue one))

  module _ (i : ℕ) (low : i < length s.links) where
    room-is : first_room (peer_at s i) (brought held call s) ≡ room_at (get_or call.rooms.now.links i 0)
    room-is = first-link s call.peer call.rooms.now i rest.consistent.core.links_up low

    pub back-none : length s.queue ≤ get_or call.rooms.now.links i 0 → (back held call s) (peer_at s i) ≡ []
    back-none w =
        ap (λ (o : Option ℕ). back_part o (k s) (queued_for (peer_at s i) s.queue)) room-is
        ∙ back_none (get_or call.rooms.now.links i 0) (k s) (queued_for (peer_at s i) s.queue) one (omega (arith, w, queued-few (peer_at s i) s.queue))

    -- as rows: all behind the first that are taken
    pub back-rows : (rows : List ℕ) → ihaves_at s.queue rows ≡ queued_for (peer_at s i) s.queue → (n : ℕ) → n ≡ min (get_or call.rooms.now.links i 0 * (k s)) (length rows) → ihaves_at s.queue (drop n rows) ≡ (back held call s) (peer_at s i)
    back-rows rows mine n e =
        ap (λ (m : ℕ). ihaves_at s.queue (drop m rows)) e
        ∙ ap (ihaves_at s.queue) (drop-min (get_or call.rooms.now.links i 0 * (k s)) rows)
        ∙ sym (drop-map (λ (j : ℕ). ihave_of (note_at s.queue j)) (get_or call.rooms.now.links i 0 * (k s)) rows)
        ∙ ap (drop (get_or call.rooms.now.links i 0 * (k s))) mine
        ∙ cases (ltb (get_or call.rooms.now.links i 0) 65536) small large
        ∙ sym (ap (λ (o : Option ℕ). back_part o (k s) (queued_for (peer_at s i) s.queue)) room-is)
      where
        small : ltb (get_or call.rooms.now.links i 0) 65536 ≡ true → drop (get_or call.rooms.now.links i 0 * (k s)) (queued_for (peer_at s i) s.queue) ≡ back_part (room_at (get_or call.rooms.now.links i 0)) (k s) (queued_for (peer_at s i) s.queue)
        small t = sym (back_some (get_or call.rooms.now.links i 0) (k s) (queued_for (peer_at s i) s.queue) (leb-true (suc (get_or call.rooms.now.links i 0)) 65536 t))

        large : ltb (get_or call.rooms.now.links i 0) 65536 ≡ false → drop (get_or call.rooms.now.links i 0 * (k s)) (queued_for (peer_at s i) s.queue) ≡ back_part (room_at (get_or call.rooms.now.links i 0)) (k s) (queued_for (peer_at s i) s.queue)
        large t =
            let w : length (queued_for (peer_at s i) s.queue) ≤ get_or call.rooms.now.links i 0 = omega (arith, ltb-false (get_or call.rooms.now.links i 0) 65536 t, queued-few (peer_at s i) s.queue, few) in
            drop_all (get_or call.rooms.now.links i 0 * (k s)) (queued_for (peer_at s i) s.queue) (omega (arith, w, le-mul_of_pos_right (get_or call.rooms.now.links i 0) one))
            ∙ sym (back_none (get_or call.rooms.now.links i 0) (k s) (queued_for (peer_at s i) s.queue) one w)

    pub after-same : (back held call s) (peer_at s i) ≡ [] → (after held call s) (i + 1) ≡ (after held call s) i
    after-same e = after-more i low ∙ ap (λ (hs : List Ihave). add_notes held (peer_at s i) hs ((after held call s) i)) e ∙ notes-none held (peer_at s i) ((after held call s) i)

    -- of its rows, all are taken
    pub all-taken : (rows : List ℕ) → ihaves_at s.queue rows ≡ queued_for (peer_at s i) s.queue → (n : ℕ) → n ≡ min (get_or call.rooms.now.links i 0 * (k s)) (length rows) → length rows ≤ n → (after held call s) (i + 1) ≡ (after held call s) i
    all-taken rows mine n e w = after-same (sym (back-rows rows mine n e) ∙ ap (ihaves_at s.queue) (drop_all n rows w))

  -- where every link takes all, nothing is noted
  module _ (takes : (l : ℕ) → l < length s.links → length s.queue ≤ get_or call.rooms.now.links l 0) where
    none-after : (i : ℕ) → i ≤ length s.links → (after held call s) i ≡ s.dropped
    none-after zero q = after-none
    none-after (suc i) q = ap (after held call s) (sym (add-one i)) ∙ after-same i (omega (arith, q)) (back-none i (omega (arith, q)) (takes i (omega (arith, q)))) ∙ none-after i (omega (arith, q))

    pub none-noted : add_batches held (dispatch_batches (brought held call s) (queued_peers s.queue) (k s) s.queue) s.dropped ≡ s.dropped
    none-noted =
        let w : length s.links ≤ length s.links = omega arith in
        sym (after-all (length s.links) w) ∙ none-after (length s.links) w

  module _ (l : ℕ) (low : l < length s.links) (rows : List ℕ) where
    pub earlier-below : All (Earlier s l) rows → All (λ i. (note_at s.queue i).peer < peer_at s l) rows
    earlier-below a = let w : l ≤ l = omega arith in All-weaker (Earlier s l) (λ i. (note_at s.queue i).peer < peer_at s l) (λ i q. q l w low) rows a

    pub earlier-later : All (Earlier s l) rows → All (Earlier s (l + 1)) rows
    earlier-later a = All-weaker (Earlier s l) (Earlier s (l + 1)) (λ i q j w z. q j (omega (arith, w)) z) rows a

    pub earlier-next : All (λ i. (note_at s.queue i).peer ≤ peer_at s l) rows → All (Earlier s (l + 1)) rows
    earlier-next a =
        All-weaker (λ i. (note_at s.queue i).peer ≤ peer_at s l) (Earlier s (l + 1))
        (λ i q j w z. omega (arith, q, (up_of (keys s.links) rest.consistent.core.links_up).up l j (omega (arith, w)) (omega (arith, z, keys-long)))) rows a
