-- Of one event: what becomes of an identifier that stands recorded, or queued, for a neighbour.
-- Assumes nothing.
use Rattle.std.proofs.Common.{ℕ, ◌+◌, ◌≤◌, arith, ◌≡◌, refl, sym, ap, ◌∙◌, Bool, true, false, not, ◌||◌, List, [], ◌∷◌, ◌++◌, ◌⊎◌, inl, inr, eqb, drop, eqb-true, if◌then◌else◌}
use Rattle.storage.specs.Lists.Base.{is_empty, filter, any, count}
use Rattle.storage.proofs.ListsLaws.MapLaws.{cases, true≢, and_left}
use Rattle.storage.proofs.ListsLaws.Lists.{any_left, any-right, any-filter}
use Rattle.storage.proofs.ListsLaws.ListLaws.{any-filter-false}
use Rattle.time_cache.specs.TimeCache.{holds}
use Rattle.postcard.specs.Message.{Message, Gossip, Prune, Graft, IHave, SendGraft, DispatchLazyPush, EvictCache, AnnounceDropped, Event, Received, Broadcast, Fired, Up, Down}
use Rattle.protocol.specs.Links.{is_neighbour}
use Rattle.protocol.specs.State.{Note, with_queue}
use Rattle.protocol.specs.Run.{Run, with_state, act}
use Rattle.protocol.specs.Push.{for_peer, notes, schedule_dispatch, schedule_announce_dropped}
use Rattle.protocol.specs.Gossips.{update_links}
use Rattle.protocol.specs.Ticks.{per_message, queued_peers, dispatch_to, clear_dispatch, on_dispatch_timer, oldest, younger, move_oldest, still_cached, dispatch_if_queued, on_announce_dropped_timer, evict, on_evict_cache_timer}
use Rattle.protocol.specs.Neighbours.{without_notes, forget_peer, on_neighbor_up, on_neighbor_down}
use Rattle.protocol.specs.Handle.{first_event, count_message, if_neighbour, on_timer, on_message, handle_message, handle}
use Rattle.protocol.specs.NoNeighbourPassedOver.{is_down, dispatch_tick, announce_tick, is_tick, fires_tick}
use Rattle.protocol.specs.AlikeCalls.Peerwise.{of_peer}
use Rattle.protocol.proofs.Walk.{walk-if, walk-dispatch_to, walk-first_event, walk-on_gossip, walk-broadcast, walk-on_prune, walk-on_graft, walk-on_ihave, walk-on_send_graft_timer}
use Rattle.protocol.proofs.StepRecord.{sound-first}
use Rattle.protocol.proofs.Pushes.{old-or-young, still_noted}
use Rattle.protocol.proofs.AlikeCallsLaws.PeerLaws.{filter-swap, any_of, younger-of}
use Rattle.protocol.proofs.TreeLaws.Plain.{announcing}
use Rattle.protocol.proofs.TreeLaws.Queue.{dispatch-tells}
use Rattle.protocol.proofs.FourTicksLaws.Places.{is_id, last, last-filter, last-drop}
use Rattle.protocol.proofs.FourTicksLaws.Keeps.{place, Keeps, keeps-refl, keeps-trans, keeps-steps, keeps-sending, keeps-caches, keeps-announces, keeps-leaves, keeps-grafts, keeps-emits, keeps-evict}

-- what the two schedulers leave alone
record Alone (r r' : Run) : Type 0 where
  dropped : r'.state.dropped ≡ r.state.dropped
  queue : r'.state.queue ≡ r.state.queue
  cache : r'.state.cache ≡ r.state.cache
  init : r'.state.init ≡ r.state.init

alone-refl : (r : Run) → Alone r r
alone-refl r = record { dropped = refl; queue = refl; cache = refl; init = refl }

alone-dispatch : (r : Run) → Alone r (dispatch_if_queued r)
unfolding dispatch_if_queued schedule_dispatch act
alone-dispatch r =
    walk-if Alone (is_empty r.state.queue) (alone-refl r) (walk-if Alone r.state.timers.dispatch (alone-refl r) (record { dropped = refl; queue = refl; cache = refl; init = refl }))

alone-announce : (r : Run) → Alone r (schedule_announce_dropped r)
unfolding schedule_announce_dropped act
alone-announce r = walk-if Alone (is_empty r.state.dropped || r.state.timers.announce) (alone-refl r) (record { dropped = refl; queue = refl; cache = refl; init = refl })

-- the tick beside what it schedules
tick-alone : (r : Run) → Alone (with_state (move_oldest (still_cached r.state) r.state) r) (on_announce_dropped_timer r)
unfolding on_announce_dropped_timer
tick-alone r =
    let r₁ : Run = with_state (move_oldest (still_cached r.state) r.state) r in
    let x = alone-dispatch r₁ in
    let y = alone-announce (dispatch_if_queued r₁) in
    record { dropped = y.dropped ∙ x.dropped; queue = y.queue ∙ x.queue; cache = y.cache ∙ x.cache; init = y.init ∙ x.init }

module _ (p id : ℕ) where
  infixr 4 ◌⨾◌
  ◌⨾◌ : {a b c : Run} → Keeps p id a b → Keeps p id b c → Keeps p id a c
  k ⨾ l = keeps-trans p id _ _ _ k l

  -- what becomes of what stands recorded: it stays, nearer by 64 at a tick; or a tick takes it off, uncached or into the queue
  pub data After (tick : Bool) (r r' : Run) : Type 0 where
    stays : any (notes p id) r'.state.dropped ≡ true → place p id r' + (if tick then 64 else 0) ≤ place p id r → After tick r r'
    uncached : tick ≡ true → any (notes p id) r'.state.dropped ≡ false → holds id r.state.cache ≡ false → After tick r r'
    queues : tick ≡ true → any (notes p id) r'.state.dropped ≡ false → any (notes p id) r'.state.queue ≡ true → After tick r r'

  kept : {r r' : Run} → any (notes p id) r.state.dropped ≡ true → Keeps p id r r' → After false r r'
  kept {r} {r'} h k = stays (k.stays h) (omega (arith, k.nearer h))

  -- the tick of the record

  -- what a tick leaves of a neighbour's list
  left-of : (r : Run) → of_peer p (younger [] (still_cached r.state)) ≡ drop 64 (filter (λ n. holds n.id r.state.cache) (of_peer p r.state.dropped))
  unfolding still_cached count
  left-of r = younger-of p [] (still_cached r.state) ∙ ap (drop 64) (filter-swap (for_peer p) (λ n. holds n.id r.state.cache) r.state.dropped)

  -- one that stays had more than 64 up to it
  nearer-by-64 : (r : Run) → any (notes p id) (younger [] (still_cached r.state)) ≡ true → last id (of_peer p (younger [] (still_cached r.state))) + 64 ≤ place p id r
  nearer-by-64 r y =
      let cached : List Note = filter (λ n. holds n.id r.state.cache) (of_peer p r.state.dropped) in
      let a : any (is_id id) (drop 64 cached) ≡ true = ap (any (is_id id)) (sym (left-of r)) ∙ sym (any_of p id (younger [] (still_cached r.state))) ∙ y in
      omega (arith, ap (last id) (left-of r), last-drop id 64 cached a, last-filter id (λ n. holds n.id r.state.cache) (of_peer p r.state.dropped))

  -- one that is cached and does not stay is among the oldest
  moved : (r : Run) → any (notes p id) r.state.dropped ≡ true → holds id r.state.cache ≡ true → any (notes p id) (younger [] (still_cached r.state)) ≡ false →
      any (notes p id) (r.state.queue ++ oldest [] (still_cached r.state)) ≡ true
  moved r h held gone = on (old-or-young (notes p id) [] (still_cached r.state) (still_noted p id r.state held h))
    where
      on : (any (notes p id) (oldest [] (still_cached r.state)) ≡ true) ⊎ (any (notes p id) (younger [] (still_cached r.state)) ≡ true) →
          any (notes p id) (r.state.queue ++ oldest [] (still_cached r.state)) ≡ true
      on (inl o) = any-right (notes p id) r.state.queue _ o
      on (inr y) = true≢ (sym gone ∙ y)

  tick-after : (r : Run) → any (notes p id) r.state.dropped ≡ true → After true r (on_announce_dropped_timer r)
  unfolding move_oldest
  tick-after r h =
      let x = tick-alone r in
      cases (any (notes p id) (younger [] (still_cached r.state)))
      (λ y. stays (rw x.dropped y) (rw x.dropped (nearer-by-64 r y)))
      (λ gone. cases (holds id r.state.cache)
      (λ held. queues refl (rw x.dropped gone) (rw x.queue (moved r h held gone)))
      (λ not_held. uncached refl (rw x.dropped gone) not_held))

  -- other peers' entries taken out
  down-other : (q : ℕ) (r : Run) → eqb p q ≡ false → Keeps p id r (on_neighbor_down q r)
  unfolding on_neighbor_down forget_peer without_notes
  down-other q r ne = record {
    stays = λ h. any-filter (notes p id) (λ n. not (for_peer q n)) (λ n k. stay n k) r.state.dropped h;
    nearer = λ h. omega (arith, ap (last id) (filter-swap (for_peer p) (λ n. not (for_peer q n)) r.state.dropped), last-filter id (λ n. not (for_peer q n)) (of_peer p r.state.dropped));
    queue = λ h. any-filter (notes p id) (λ n. not (for_peer q n)) (λ n k. stay n k) r.state.queue h;
    begun = λ i. i;
  }
    where
      stay : (n : Note) → notes p id n ≡ true → not (eqb n.peer q) ≡ true
      stay n k = rw (eqb-true n.peer p (and_left (eqb n.peer p) (eqb n.id id) k), ne)

  none-without : (ns : List Note) → any (notes p id) (without_notes p ns) ≡ false
  unfolding without_notes filter any
  none-without [] = refl
  none-without (n ∷ ns) = cases (eqb n.peer p) (λ e. rw e (none-without ns)) (λ e. rw (e, e) (none-without ns))

  -- its own going down takes it off the record
  pub down-own : (r : Run) → any (notes p id) (on_neighbor_down p r).state.dropped ≡ false
  unfolding on_neighbor_down forget_peer
  down-own r = none-without r.state.dropped

  module _ (hash : List ℕ → ℕ) where
    keeps-first : (now : ℕ) (r : Run) → Keeps p id r (first_event now r)
    keeps-first now r = walk-first_event (Keeps p id) (keeps-steps p id) now r

    keeps-on_message : (now q : ℕ) (m : Message) (r : Run) → Keeps p id r (on_message hash now q m r)
    unfolding on_message if_neighbour
    keeps-on_message now q (Gossip i content d) r = walk-on_gossip (Keeps p id) (keeps-steps p id) (keeps-caches p id) (keeps-emits p id) hash now q i content d r
    keeps-on_message now q Prune r = walk-if (Keeps p id) (is_neighbour q r.state.links) (walk-on_prune (Keeps p id) (keeps-steps p id) q r) (keeps-refl p id r)
    keeps-on_message now q (Graft wanted round) r = walk-if (Keeps p id) (is_neighbour q r.state.links) (walk-on_graft (Keeps p id) (keeps-steps p id) q wanted r) (keeps-refl p id r)
    keeps-on_message now q (IHave hs) r = walk-if (Keeps p id) (is_neighbour q r.state.links) (walk-on_ihave (Keeps p id) (keeps-steps p id) (keeps-announces p id) q hs r) (keeps-refl p id r)

    -- the events that are no tick of record or queue, behind what a first event does

    keeps-received : (now q : ℕ) (m : Message) (r : Run) → Keeps p id (first_event now r) (handle hash now (Received q m) r)
    unfolding handle handle_message
    keeps-received now q m r = (keeps-steps p id).counts (count_message m (first_event now r).counts) (first_event now r) ⨾ keeps-on_message now q m _

    keeps-broadcast : (now : ℕ) (content : List ℕ) (r : Run) → Keeps p id (first_event now r) (handle hash now (Broadcast content) r)
    unfolding handle
    keeps-broadcast now content r = walk-broadcast (Keeps p id) (keeps-steps p id) (keeps-caches p id) hash now content (first_event now r)

    keeps-send_graft : (now i : ℕ) (r : Run) → Keeps p id (first_event now r) (handle hash now (Fired (SendGraft i)) r)
    unfolding handle on_timer
    keeps-send_graft now i r = walk-on_send_graft_timer (Keeps p id) (keeps-steps p id) (keeps-leaves p id) (keeps-grafts p id) now i (first_event now r)

    keeps-evict_timer : (now : ℕ) (r : Run) → Keeps p id (first_event now r) (handle hash now (Fired EvictCache) r)
    unfolding handle on_timer
    keeps-evict_timer now r = keeps-evict p id now (first_event now r)

    -- a dispatch tick, once the queue is taken out
    keeps-dispatch_to : (r : Run) → Keeps p id (with_state (with_queue [] r.state) r) (dispatch_to (queued_peers r.state.queue) (per_message r.state.settings.max_message_size) r.state.queue (with_state (with_queue [] r.state) r))
    keeps-dispatch_to r = walk-dispatch_to (Keeps p id) (keeps-sending p id) _ _ _ _

    dispatch-record : (r : Run) → any (notes p id) r.state.dropped ≡ true → After false r (on_dispatch_timer r)
    unfolding on_dispatch_timer clear_dispatch
    dispatch-record r h = let x = keeps-dispatch_to r in stays (x.stays h) (omega (arith, x.nearer h))

    dispatch-begun : (r : Run) → r.state.init ≡ true → (on_dispatch_timer r).state.init ≡ true
    unfolding on_dispatch_timer clear_dispatch
    dispatch-begun r i = (keeps-dispatch_to r).begun i

    -- the first event alone evicts
    same-first : (now : ℕ) (r : Run) → r.state.init ≡ true → first_event now r ≡ r
    unfolding first_event
    same-first now r i = rw i refl

    first-begun : (now : ℕ) (r : Run) → (first_event now r).state.init ≡ true
    unfolding first_event on_evict_cache_timer evict act
    first-begun now r = cases r.state.init (λ i. rw i refl) (λ i. rw i refl)

    -- an event that does not tell this neighbour down
    pub recorded-step : (now : ℕ) (e : Event) (r : Run) → r.state.init ≡ true → any (notes p id) r.state.dropped ≡ true → is_down p e ≡ false → After (fires_tick announce_tick e) r (handle hash now e r)
    unfolding handle on_timer fires_tick is_tick is_down on_neighbor_up update_links
    recorded-step now (Received q m) r i h n = kept h (keeps-first now r ⨾ keeps-received now q m r)
    recorded-step now (Broadcast content) r i h n = kept h (keeps-first now r ⨾ keeps-broadcast now content r)
    recorded-step now (Fired (SendGraft j)) r i h n = kept h (keeps-first now r ⨾ keeps-send_graft now j r)
    recorded-step now (Fired EvictCache) r i h n = kept h (keeps-first now r ⨾ keeps-evict_timer now r)
    recorded-step now (Fired DispatchLazyPush) r i h n = rw (same-first now r i) (dispatch-record r h)
    recorded-step now (Fired AnnounceDropped) r i h n = rw (same-first now r i) (tick-after r h)
    recorded-step now (Up as_quiet q) r i h n = stays h (omega arith)
    recorded-step now (Down q) r i h n = kept h (down-other q r n)

    -- an event that does
    pub down-step : (now : ℕ) (e : Event) (r : Run) → is_down p e ≡ true → any (notes p id) (handle hash now e r).state.dropped ≡ false
    unfolding handle is_down
    down-step now (Received q m) r d = true≢ d
    down-step now (Broadcast content) r d = true≢ d
    down-step now (Fired t) r d = true≢ d
    down-step now (Up as_quiet q) r d = true≢ d
    down-step now (Down q) r d = rw (← eqb-true p q d) (down-own r)

    -- a panel on whose record it stands has begun; and an event keeps that
    pub begun-step : (now : ℕ) (e : Event) (r : Run) → (any (notes p id) r.state.dropped ≡ true → r.state.init ≡ true) → any (notes p id) (handle hash now e r).state.dropped ≡ true →
        (handle hash now e r).state.init ≡ true
    unfolding handle on_timer on_neighbor_up update_links on_neighbor_down forget_peer without_notes move_oldest
    begun-step now (Received q m) r b h = (keeps-received now q m r).begun (first-begun now r)
    begun-step now (Broadcast content) r b h = (keeps-broadcast now content r).begun (first-begun now r)
    begun-step now (Fired (SendGraft i)) r b h = (keeps-send_graft now i r).begun (first-begun now r)
    begun-step now (Fired EvictCache) r b h = (keeps-evict_timer now r).begun (first-begun now r)
    begun-step now (Fired DispatchLazyPush) r b h = dispatch-begun (first_event now r) (first-begun now r)
    begun-step now (Fired AnnounceDropped) r b h = (tick-alone (first_event now r)).init ∙ first-begun now r
    begun-step now (Up as_quiet q) r b h = b h
    begun-step now (Down q) r b h = b (cases (any (notes p id) r.state.dropped) (λ e. e) (λ e. true≢ (sym (any-filter-false (notes p id) (λ n. not (for_peer q n)) r.state.dropped e) ∙ h)))

    announce-queue : (r : Run) → any (notes p id) r.state.queue ≡ true → any (notes p id) (on_announce_dropped_timer r).state.queue ≡ true
    unfolding move_oldest
    announce-queue r h = rw (tick-alone r).queue (any_left (notes p id) r.state.queue _ h)

    -- what stands queued stays at an event that neither tells the neighbour down nor is the queue's tick
    pub queued-step : (now : ℕ) (e : Event) (r : Run) → any (notes p id) r.state.queue ≡ true → is_down p e ≡ false → fires_tick dispatch_tick e ≡ false → any (notes p id) (handle hash now e r).state.queue ≡ true
    unfolding handle on_timer fires_tick is_tick is_down on_neighbor_up update_links
    queued-step now (Received q m) r h n t = (keeps-first now r ⨾ keeps-received now q m r).queue h
    queued-step now (Broadcast content) r h n t = (keeps-first now r ⨾ keeps-broadcast now content r).queue h
    queued-step now (Fired (SendGraft i)) r h n t = (keeps-first now r ⨾ keeps-send_graft now i r).queue h
    queued-step now (Fired EvictCache) r h n t = (keeps-first now r ⨾ keeps-evict_timer now r).queue h
    queued-step now (Fired DispatchLazyPush) r h n t = true≢ (sym t)
    queued-step now (Fired AnnounceDropped) r h n t = announce-queue (first_event now r) ((keeps-first now r).queue h)
    queued-step now (Up as_quiet q) r h n t = h
    queued-step now (Down q) r h n t = (down-other q r n).queue h

    -- the queue's tick sends it
    pub sent-step : (now : ℕ) (e : Event) (r : Run) → 1 ≤ per_message r.state.settings.max_message_size → any (notes p id) r.state.queue ≡ true → fires_tick dispatch_tick e ≡ true → any (announcing p id) (handle hash now e r).actions ≡ true
    unfolding handle on_timer fires_tick is_tick
    sent-step now (Received q m) r one h t = true≢ t
    sent-step now (Broadcast content) r one h t = true≢ t
    sent-step now (Fired (SendGraft i)) r one h t = true≢ t
    sent-step now (Fired EvictCache) r one h t = true≢ t
    sent-step now (Fired DispatchLazyPush) r one h t = dispatch-tells p id (first_event now r) (rw (sound-first now r).settings one) ((keeps-first now r).queue h)
    sent-step now (Fired AnnounceDropped) r one h t = true≢ t
    sent-step now (Up as_quiet q) r one h t = true≢ t
    sent-step now (Down q) r one h t = true≢ t
