-- What bounds the actions is kept by every event: cached messages were at most M bytes as they came, and their rounds, and those of queue and record, are 16-bit numbers.
-- Assumes nothing.
use Rattle.std.proofs.Common.{ℕ, zero, suc, ◌+◌, ◌≤◌, ◌≡◌, refl, sym, Bool, true, false, not, ◌&&◌, List, [], ◌∷◌, arith, eqb, ltb, leb, length, take, drop, ltb-false, le-leb, if◌then◌else◌, Option, Some, None}
use Rattle.storage.specs.Lists.Base.{all, any, filter, count, member}
use Rattle.storage.specs.Lists.Map.{Map, Entry, lookup, remove}
use Rattle.storage.proofs.ListsLaws.MapLaws.{cases, true≢, and_right, and_intro, all_head, all_tail, all_cons}
use Rattle.storage.proofs.ListsLaws.ListLaws.{all-insert-entry, all-remove-entry}
use Rattle.time_cache.specs.TimeCache.{Timed, Expiry, get, value_of, holds, pop, pop_all, due, expires_at, expire_until, put}
use Rattle.postcard.specs.Number.{number_length}
use Rattle.postcard.specs.Sizes.{gossip_size}
use Rattle.postcard.specs.Message.{Delivery, Swarm, Neighbors, Ihave, Message, Gossip, Prune, Graft, IHave, Timer, SendGraft, DispatchLazyPush, EvictCache, AnnounceDropped, Event, Received, Broadcast, Fired, Up, Down}
use Rattle.protocol.specs.Links.{is_neighbour, lazy_peers}
use Rattle.protocol.specs.State.{State, Note, Hop, Grafts, Cached, with_init}
use Rattle.protocol.specs.Run.{Room}
use Rattle.protocol.specs.Push.{for_peer, notes, record_full, note_for}
use Rattle.protocol.specs.Gossips.{announcers, grafted_for, with_first, graft_out, least_from, far_closer, Late, duplicate, repeated, faster, late_kind, with_kept}
use Rattle.protocol.specs.Ticks.{per_message, chunks, queued_for, queued_peers, oldest, younger, still_cached, evict}
use Rattle.protocol.specs.Neighbours.{forget_peer, without_notes}
use Rattle.decide.specs.Lengths.{message_length}
use Rattle.decide.specs.Rooms.{back_peers}
use Rattle.decide.specs.RecordGrowth.{cached_in, add_note, add_notes, Batch, add_batches, batches_for}
use Rattle.decide.specs.Pieces.{Piece, numbered, peer_pieces, piece_taken, back_ihaves, dispatch_batches}
use Rattle.decide.specs.StateAfter.{first_state, recorded_state, pushed_state, lazy_state, taken_state, first_set_state, forgotten_state, optimised_state, closed_state, pushed_on_state, new_state, late_state, broadcast_state, announced_state, ihave_state, reply_state, graft_state, asked_state, send_graft_state, dispatch_state, announce_state, timer_state, gossip_state, message_state, state_after}
use Rattle.output_size.proofs.Weights.{number-suc, number-one}
use Rattle.output_size.proofs.Steps.{entry_fits, gossip-length}
use Rattle.output_size.proofs.DispatchWeight.{short, short_note, all-append, all-take, all-drop, queued-short}
use Rattle.output_size.proofs.Events.{all-filter, event_length}

-- of a cached message: it fits, and its round is a 16-bit number
unfoldable pub entry_good : ℕ → Entry (Timed Cached) → Bool
entry_good M e = entry_fits M e && leb e.value.value.round 65535

pub record Good (M : ℕ) (s : State) : Type 0 where
  pub size : s.settings.max_message_size ≡ M
  pub cached : all (entry_good M) s.cache.entries ≡ true
  pub queue : all short_note s.queue ≡ true
  pub dropped : all short_note s.dropped ≡ true
  pub begun : s.init ≡ true

-- a state in which none of these is other
still : (M : ℕ) (s t : State) → t.settings ≡ s.settings → t.cache ≡ s.cache → t.queue ≡ s.queue → t.dropped ≡ s.dropped → t.init ≡ s.init → Good M s → Good M t
still M s t a b c d i g = record { size = rw a g.size; cached = rw b g.cached; queue = rw c g.queue; dropped = rw d g.dropped; begun = rw i g.begun }

good-if : (M : ℕ) (b : Bool) (s t : State) → Good M s → Good M t → Good M (if b then s else t)
good-if M true s t g h = g
good-if M false s t g h = h

-- notes

all-oldest : (f : Note → Bool) (seen ns : List Note) → all f ns ≡ true → all f (oldest seen ns) ≡ true
unfolding oldest all
all-oldest f seen [] h = refl
all-oldest f seen (n ∷ ns) h =
    cases (ltb (count (for_peer n.peer) seen) 64)
    (λ t. rw t (all_cons f n (oldest (n ∷ seen) ns) (all_head f n ns h) (all-oldest f (n ∷ seen) ns (all_tail f n ns h))))
    (λ t. rw t (all-oldest f (n ∷ seen) ns (all_tail f n ns h)))

all-younger : (f : Note → Bool) (seen ns : List Note) → all f ns ≡ true → all f (younger seen ns) ≡ true
unfolding younger all
all-younger f seen [] h = refl
all-younger f seen (n ∷ ns) h =
    cases (ltb (count (for_peer n.peer) seen) 64)
    (λ t. rw t (all-younger f (n ∷ seen) ns (all_tail f n ns h)))
    (λ t. rw t (all_cons f n (younger (n ∷ seen) ns) (all_head f n ns h) (all-younger f (n ∷ seen) ns (all_tail f n ns h))))

note_for-short : (ps : List ℕ) (id round : ℕ) → leb round 65535 ≡ true → all short_note (note_for ps id round) ≡ true
unfolding note_for all
note_for-short [] id round h = refl
note_for-short (p ∷ ps) id round h = all_cons short_note (record { peer = p; id = id; round = round }) (note_for ps id round) h (note_for-short ps id round h)

-- what is noted

add_note-short : (held : ℕ → Bool) (p : ℕ) (h : Ihave) (ds : List Note) → short h ≡ true → all short_note ds ≡ true → all short_note (add_note held p h ds) ≡ true
unfolding add_note all
add_note-short held p h ds s a =
    cases (not (record_full p ds) && held h.id && not (any (notes p h.id) ds))
    (λ t. rw t (all-append short_note ds (record { peer = p; id = h.id; round = h.round } ∷ []) a (all_cons short_note (record { peer = p; id = h.id; round = h.round }) [] s refl)))
    (λ t. rw t a)

add_notes-short : (held : ℕ → Bool) (p : ℕ) (hs : List Ihave) (ds : List Note) → all short hs ≡ true → all short_note ds ≡ true → all short_note (add_notes held p hs ds) ≡ true
unfolding add_notes
add_notes-short held p [] ds s a = a
add_notes-short held p (h ∷ hs) ds s a = add_notes-short held p hs (add_note held p h ds) (all_tail short h hs s) (add_note-short held p h ds (all_head short h hs s) a)

abbrev short_batch : Batch → Bool
short_batch b = all short b.ihaves

add_batches-short : (held : ℕ → Bool) (bs : List Batch) (ds : List Note) → all short_batch bs ≡ true → all short_note ds ≡ true → all short_note (add_batches held bs ds) ≡ true
unfolding add_batches
add_batches-short held [] ds s a = a
add_batches-short held (b ∷ bs) ds s a = add_batches-short held bs (add_notes held b.peer b.ihaves ds) (all_tail short_batch b bs s) (add_notes-short held b.peer b.ihaves ds (all_head short_batch b bs s) a)

batches_for-short : (h : Ihave) (ps : List ℕ) → short h ≡ true → all short_batch (batches_for h ps) ≡ true
unfolding batches_for all
batches_for-short h [] s = refl
batches_for-short h (p ∷ ps) s = all_cons short_batch (record { peer = p; ihaves = h ∷ [] }) (batches_for h ps) (all_cons short h [] s refl) (batches_for-short h ps s)

abbrev short_piece : Piece → Bool
short_piece x = all short x.ihaves

chunks-short : (n k : ℕ) (hs : List Ihave) → all short hs ≡ true → all (all short) (chunks n k hs) ≡ true
unfolding chunks all
chunks-short zero k hs h = refl
chunks-short (suc n) k [] h = refl
chunks-short (suc n) k (x ∷ hs) h = all_cons (all short) (take k (x ∷ hs)) (chunks n k (drop k (x ∷ hs))) (all-take short k (x ∷ hs) h) (chunks-short n k (drop k (x ∷ hs)) (all-drop short k (x ∷ hs) h))

numbered-short : (p k : ℕ) (cs : List (List Ihave)) → all (all short) cs ≡ true → all short_piece (numbered p k cs) ≡ true
unfolding numbered all
numbered-short p k [] h = refl
numbered-short p k (c ∷ cs) h = all_cons short_piece (record { peer = p; nth = k; ihaves = c }) (numbered p (suc k) cs) (all_head (all short) c cs h) (numbered-short p (suc k) cs (all_tail (all short) c cs h))

back-short : (rooms : List Room) (xs : List Piece) → all short_piece xs ≡ true → all short (back_ihaves rooms xs) ≡ true
unfolding back_ihaves all
back-short rooms [] h = refl
back-short rooms (x ∷ xs) h =
    all-append short (if piece_taken rooms x then [] else x.ihaves) (back_ihaves rooms xs) (on (piece_taken rooms x)) (back-short rooms xs (all_tail short_piece x xs h))
  where
    on : (b : Bool) → all short (if b then [] else x.ihaves) ≡ true
    on true = refl
    on false = all_head short_piece x xs h

dispatch_batches-short : (rooms : List Room) (ps : List ℕ) (k : ℕ) (ns : List Note) → all short_note ns ≡ true → all short_batch (dispatch_batches rooms ps k ns) ≡ true
unfolding dispatch_batches peer_pieces all
dispatch_batches-short rooms [] k ns h = refl
dispatch_batches-short rooms (p ∷ ps) k ns h =
    all_cons short_batch (record { peer = p; ihaves = back_ihaves rooms (numbered p 1 (chunks (length ns) k (queued_for p ns))) }) (dispatch_batches rooms ps k ns)
    (back-short rooms (numbered p 1 (chunks (length ns) k (queued_for p ns))) (numbered-short p 1 (chunks (length ns) k (queued_for p ns)) (chunks-short (length ns) k (queued_for p ns) (queued-short p ns h))))
    (dispatch_batches-short rooms ps k ns h)

-- the cache

all-pop_all : {A : Type 0} (f : Entry (Timed A) → Bool) (xs : List Expiry) (m : Map (Timed A)) → all f m ≡ true → all f (pop_all xs m) ≡ true
unfolding pop_all pop
all-pop_all f [] m h = h
all-pop_all f (x ∷ xs) m h =
    cases (expires_at x.time (lookup x.key m))
    (λ t. rw t (all-pop_all f xs (remove x.key m) (all-remove-entry f x.key m h)))
    (λ t. rw t (all-pop_all f xs m h))

good-evict : (M now : ℕ) (s : State) → Good M s → Good M (evict now s)
unfolding evict expire_until
good-evict M now s g = record { size = g.size; cached = all-pop_all (entry_good M) (due now s.cache.expiry) s.cache.entries g.cached; queue = g.queue; dropped = g.dropped; begun = g.begun }

-- before the first event nothing is cached, queued or recorded
pub data Stands (M : ℕ) (s : State) : Type 0 where
  begins : s.settings.max_message_size ≡ M → s.init ≡ false → s.cache.entries ≡ [] → s.queue ≡ [] → s.dropped ≡ [] → Stands M s
  goes_on : Good M s → Stands M s

pub good-first : (M now : ℕ) (s : State) → Stands M s → Good M (first_state now s)
unfolding first_state all
good-first M now s (goes_on g) = by s.init g.begun
  where
    by : (b : Bool) → b ≡ true → Good M (if b then s else evict now (with_init true s))
    by true h = g
    by false h = true≢ h
good-first M now s (begins m i c q d) = by s.init i
  where
    by : (b : Bool) → b ≡ false → Good M (if b then s else evict now (with_init true s))
    by true h = true≢ (sym h)
    by false h = good-evict M now (with_init true s) (record { size = m; cached = rw c refl; queue = rw q refl; dropped = rw d refl; begun = refl })

stands-size : (M : ℕ) (s : State) → Stands M s → s.settings.max_message_size ≡ M
stands-size M s (goes_on g) = g.size
stands-size M s (begins m i c q d) = m

-- a state in which none of these is other
stands-still : (M : ℕ) (s t : State) → t.settings ≡ s.settings → t.cache ≡ s.cache → t.queue ≡ s.queue → t.dropped ≡ s.dropped → t.init ≡ s.init → Stands M s → Stands M t
stands-still M s t a b c d i (goes_on g) = goes_on (still M s t a b c d i g)
stands-still M s t a b c d i (begins m y e q r) = begins (rw a m) (rw i y) (rw b e) (rw c q) (rw d r)

good-recorded : (M : ℕ) (ds : List Note) (s : State) → all short_note ds ≡ true → Good M s → Good M (recorded_state ds s)
unfolding recorded_state
good-recorded M ds s a g = record { size = g.size; cached = g.cached; queue = g.queue; dropped = a; begun = g.begun }

good-pushed : (M : ℕ) (rooms : List Room) (ps : List ℕ) (h : Ihave) (s : State) → short h ≡ true → Good M s → Good M (pushed_state rooms ps h s)
unfolding pushed_state
good-pushed M rooms ps h s a g =
    good-recorded M _ s (add_batches-short (cached_in s.cache) (batches_for h (back_peers rooms ps)) s.dropped (batches_for-short h (back_peers rooms ps) a) g.dropped) g

good-lazy : (M id round sender : ℕ) (s : State) → leb round 65535 ≡ true → Good M s → Good M (lazy_state id round sender s)
unfolding lazy_state
good-lazy M id round sender s a g =
    record { size = g.size; cached = g.cached; queue = all-append short_note s.queue _ g.queue (note_for-short (filter (λ p. not (eqb p sender)) (lazy_peers s.links)) id round a); dropped = g.dropped; begun = g.begun }

good-taken : (M now id : ℕ) (content : List ℕ) (round : ℕ) (s : State) → 34 + number_length (length content) + length content + number_length round ≤ M + 1 → leb round 65535 ≡ true → Good M s → Good M (taken_state now id content round s)
unfolding taken_state put entry_good entry_fits
good-taken M now id content round s h a g = record {
  size = g.size;
  cached = all-insert-entry (entry_good M) id (record { expires = now + s.settings.message_cache_retention; value = record { content = content; round = round } }) s.cache.entries
      (and_intro (le-leb (34 + number_length (length content) + length content + number_length round) (M + 1) h) a) g.cached;
  queue = g.queue;
  dropped = g.dropped;
  begun = g.begun;
}

good-first_set : (M id sender round : ℕ) (s : State) → Good M s → Good M (first_set_state id sender round s)
unfolding first_set_state
good-first_set M id sender round s g = on (get id s.grafted)
  where
    on : (o : Option Grafts) → Good M (with_first id (record { peer = sender; round = round }) o s)
    on None = unfold with_first in g
    on (Some x) = unfold with_first in (still M s _ refl refl refl refl refl g)

good-optimised : (M sender round : ℕ) (hs : List Hop) (s : State) → Good M s → Good M (optimised_state sender round hs s)
unfolding optimised_state
good-optimised M sender round [] s g = g
good-optimised M sender round (h ∷ hs) s g = good-if M (far_closer s.settings.optimization_threshold round (least_from h hs).round) _ s (still M s _ refl refl refl refl refl g) g

good-closed : (M id sender round : ℕ) (s : State) → Good M s → Good M (closed_state id sender round s)
unfolding closed_state forgotten_state
good-closed M id sender round s g =
    good-if M (is_neighbour sender s.links && not (graft_out sender round (grafted_for id s))) _ _
    (good-optimised M sender (suc round) (announcers id s) _ (still M s _ refl refl refl refl refl g)) (still M s _ refl refl refl refl refl g)

good-new : (M : ℕ) (rooms : List Room) (now sender id : ℕ) (content : List ℕ) (round : ℕ) (s : State) → message_length (Gossip id content (Swarm round)) ≤ M → round ≤ 65534 → Good M s →
    Good M (new_state rooms now sender id content round s)
unfolding new_state pushed_on_state
good-new M rooms now sender id content round s h r g =
    let a : leb (suc round) 65535 ≡ true = le-leb (suc round) 65535 (omega (arith, r)) in
    good-closed M id sender round _
    (good-lazy M id (suc round) sender _ a
    (good-pushed M rooms _ (record { id = id; round = suc round }) _ a
    (good-first_set M id sender round _
    (good-taken M now id content (suc round) s (omega (arith, gossip-length id content round, number-suc round, h)) a g))))

good-late : (M sender id : ℕ) (l : Late) (s : State) → Good M s → Good M (late_state sender id l s)
unfolding late_state
good-late M sender id duplicate s g = still M s _ refl refl refl refl refl g
good-late M sender id repeated s g = g
good-late M sender id (faster first) s g = still M (with_kept id sender (get id s.grafted) s) _ refl refl refl refl refl (kept (get id s.grafted))
  where
    kept : (o : Option Grafts) → Good M (with_kept id sender o s)
    kept None = unfold with_kept in g
    kept (Some x) = unfold with_kept in (still M s _ refl refl refl refl refl g)

good-broadcast : (M : ℕ) (rooms : List Room) (now id : ℕ) (content : List ℕ) (s : State) → gossip_size (length content) ≤ M → Good M s → Good M (broadcast_state rooms now id content s)
unfolding broadcast_state gossip_size
good-broadcast M rooms now id content s h g =
    good-pushed M rooms _ (record { id = id; round = 0 }) _ refl
    (good-lazy M id 0 s.settings.me _ refl
    (good-taken M now id content 0 s (omega (arith, number-one 0 (omega arith), h)) refl g))

good-announced : (M sender : ℕ) (h : Ihave) (s : State) → Good M s → Good M (announced_state sender h s)
unfolding announced_state
good-announced M sender h s g =
    good-if M (holds h.id s.received) s _ g (good-if M (member h.id s.timers.graft) _ _ (still M s _ refl refl refl refl refl g) (still M s _ refl refl refl refl refl g))

good-ihave : (M sender : ℕ) (hs : List Ihave) (s : State) → Good M s → Good M (ihave_state sender hs s)
unfolding ihave_state
good-ihave M sender [] s g = g
good-ihave M sender (h ∷ hs) s g = good-ihave M sender hs (announced_state sender h s) (good-announced M sender h s g)

-- the round of what is cached
found_round : Option Cached → Bool
found_round None = true
found_round (Some c) = leb c.round 65535

found-round : (M id : ℕ) (m : Map (Timed Cached)) → all (entry_good M) m ≡ true → found_round (value_of (lookup id m)) ≡ true
unfolding lookup value_of entry_good found_round
found-round M id [] h = refl
found-round M id (e ∷ m) h =
    cases (eqb id e.key) (λ t. rw t (and_right (entry_fits M e) (leb e.value.value.round 65535) (all_head (entry_good M) e m h))) (λ t. rw t (found-round M id m (all_tail (entry_good M) e m h)))

good-reply : (M : ℕ) (rooms : List Room) (sender id : ℕ) (o : Option Cached) (s : State) → found_round o ≡ true → Good M s → Good M (reply_state rooms sender id o s)
unfolding reply_state found_round
good-reply M rooms sender id None s h g = g
good-reply M rooms sender id (Some c) s h g = good-pushed M rooms (sender ∷ []) (record { id = id; round = c.round }) s h g

good-graft : (M : ℕ) (rooms : List Room) (sender : ℕ) (wanted : Option ℕ) (s : State) → Good M s → Good M (graft_state rooms sender wanted s)
unfolding graft_state get
good-graft M rooms sender None s g = still M s _ refl refl refl refl refl g
good-graft M rooms sender (Some id) s g =
    good-reply M rooms sender id (value_of (lookup id s.cache.entries)) _ (found-round M id s.cache.entries g.cached) (still M s _ refl refl refl refl refl g)

good-asked : (M now id : ℕ) (hs : List Hop) (s : State) → Good M s → Good M (asked_state now id hs s)
unfolding asked_state
good-asked M now id [] s g = g
good-asked M now id (h ∷ hs) s g = still M s _ refl refl refl refl refl g

good-send_graft : (M now id : ℕ) (s : State) → Good M s → Good M (send_graft_state now id s)
unfolding send_graft_state
good-send_graft M now id s g = good-if M (holds id s.received) _ _ (still M s _ refl refl refl refl refl g) (good-asked M now id (announcers id s) _ (still M s _ refl refl refl refl refl g))

good-dispatch : (M : ℕ) (rooms : List Room) (s : State) → Good M s → Good M (dispatch_state rooms s)
unfolding dispatch_state recorded_state all
good-dispatch M rooms s g = record {
  size = g.size;
  cached = g.cached;
  queue = refl;
  dropped = add_batches-short (cached_in s.cache) _ s.dropped (dispatch_batches-short rooms (queued_peers s.queue) (per_message s.settings.max_message_size) s.queue g.queue) g.dropped;
  begun = g.begun;
}

good-announce : (M : ℕ) (s : State) → Good M s → Good M (announce_state s)
unfolding announce_state still_cached
good-announce M s g =
    let a : all short_note (filter (λ n. holds n.id s.cache) s.dropped) ≡ true = all-filter short_note (λ n. holds n.id s.cache) s.dropped g.dropped in
    record {
      size = g.size;
      cached = g.cached;
      queue = all-append short_note s.queue _ g.queue (all-oldest short_note [] (filter (λ n. holds n.id s.cache) s.dropped) a);
      dropped = all-younger short_note [] (filter (λ n. holds n.id s.cache) s.dropped) a;
      begun = g.begun;
    }

good-forget : (M p : ℕ) (s : State) → Good M s → Good M (forget_peer p s)
unfolding forget_peer without_notes
good-forget M p s g = record { size = g.size; cached = g.cached; queue = all-filter short_note (λ n. not (for_peer p n)) s.queue g.queue; dropped = all-filter short_note (λ n. not (for_peer p n)) s.dropped g.dropped; begun = g.begun }

stands-forget : (M p : ℕ) (s : State) → Stands M s → Stands M (forget_peer p s)
stands-forget M p s (goes_on g) = goes_on (good-forget M p s g)
stands-forget M p s (begins m i c q d) = unfold forget_peer without_notes filter in (begins m i c (rw q refl) (rw d refl))

good-timer : (M : ℕ) (rooms : List Room) (now : ℕ) (t : Timer) (s : State) → Good M s → Good M (timer_state rooms now t s)
unfolding timer_state
good-timer M rooms now (SendGraft id) s g = good-send_graft M now id s g
good-timer M rooms now DispatchLazyPush s g = good-dispatch M rooms s g
good-timer M rooms now EvictCache s g = good-evict M now s g
good-timer M rooms now AnnounceDropped s g = good-announce M s g

module _ (hash : List ℕ → ℕ) where
  -- question 12 and the width of a round: a message that is taken in has a round at most 65,534
  unfoldable pub Near : Message → State → Type 0
  Near (Gossip id content (Swarm round)) s = eqb (hash content) id ≡ true → holds id s.received ≡ false → round ≤ 65534
  Near (Gossip id content Neighbors) s = Unit {0}
  Near Prune s = Unit {0}
  Near (Graft wanted round) s = Unit {0}
  Near (IHave hs) s = Unit {0}

  good-gossip : (M : ℕ) (rooms : List Room) (now sender id : ℕ) (content : List ℕ) (d : Delivery) (s : State) → message_length (Gossip id content d) ≤ M → Near (Gossip id content d) s → Good M s →
      Good M (gossip_state hash rooms now sender id content d s)
  unfolding gossip_state Near
  good-gossip M rooms now sender id content (Swarm round) s h near g =
      cases (eqb (hash content) id)
      (λ t. cases (holds id s.received)
      (λ u. rw (t, u) (good-late M sender id (late_kind sender (Swarm round) s.links (get id s.grafted)) s g))
      (λ u. rw (t, u) (good-new M rooms now sender id content round s h (near t u) g)))
      (λ t. rw t g)
  good-gossip M rooms now sender id content Neighbors s h near g =
      cases (eqb (hash content) id)
      (λ t. cases (holds id s.received)
      (λ u. rw (t, u) (good-late M sender id (late_kind sender Neighbors s.links (get id s.grafted)) s g))
      (λ u. rw (t, u) g))
      (λ t. rw t g)

  good-message : (M : ℕ) (rooms : List Room) (now sender : ℕ) (m : Message) (s : State) → message_length m ≤ M → Near m s → Good M s → Good M (message_state hash rooms now sender m s)
  unfolding message_state
  good-message M rooms now sender (Gossip id content d) s h near g = good-gossip M rooms now sender id content d s h near g
  good-message M rooms now sender Prune s h near g = good-if M (is_neighbour sender s.links) _ s (still M s _ refl refl refl refl refl g) g
  good-message M rooms now sender (Graft wanted round) s h near g = good-if M (is_neighbour sender s.links) _ s (good-graft M rooms sender wanted s g) g
  good-message M rooms now sender (IHave hs) s h near g = good-if M (is_neighbour sender s.links) _ s (good-ihave M sender hs s g) g

  unfoldable pub NearEvent : ℕ → Event → State → Type 0
  NearEvent now (Received p m) s = Near m (first_state now s)
  NearEvent now (Broadcast content) s = Unit {0}
  NearEvent now (Fired t) s = Unit {0}
  NearEvent now (Up as_quiet p) s = Unit {0}
  NearEvent now (Down p) s = Unit {0}

  pub good-after : (M : ℕ) (rooms : List Room) (now : ℕ) (e : Event) (s : State) → event_length e ≤ M → NearEvent now e s → Stands M s → Stands M (state_after hash rooms now e s)
  unfolding state_after event_length NearEvent
  good-after M rooms now (Received p m) s h near g = goes_on (good-message M rooms now p m (first_state now s) h near (good-first M now s g))
  good-after M rooms now (Broadcast content) s h near g =
      cases (ltb s.settings.max_message_size (gossip_size (length content)))
      (λ t. rw t (goes_on (good-first M now s g)))
      (λ t. rw t (goes_on (good-broadcast M rooms now (hash content) content (first_state now s) (omega (arith, stands-size M s g, ltb-false s.settings.max_message_size (gossip_size (length content)) t)) (good-first M now s g))))
  good-after M rooms now (Fired t) s h near g = goes_on (good-timer M rooms now t (first_state now s) (good-first M now s g))
  good-after M rooms now (Up as_quiet p) s h near g = stands-still M s _ refl refl refl refl refl g
  good-after M rooms now (Down p) s h near g = stands-forget M p s g
