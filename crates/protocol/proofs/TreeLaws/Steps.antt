-- Each event follows the tree.
-- Assumes nothing.
use Rattle.std.proofs.Common.{ℕ, suc, ◌≤◌, ◌≡◌, refl, sym, ap, subst, ◌∙◌, Bool, true, false, not, ◌&&◌, List, [], ◌∷◌, ◌++◌, ◌⊎◌, inl, inr, leb, ltb, eqb, length, eqb-true, eq-eqb, leb-true, leb-false, le-ltb, lt-ltb, if◌then◌else◌, Option, Some, None}
use Rattle.storage.specs.Lists.Base.{any, filter, member, ascending}
use Rattle.storage.specs.Lists.Map.{Map, keys, has}
use Rattle.storage.proofs.ListsLaws.MapLaws.{cases, true≢, and_left, and_right, and_intro}
use Rattle.storage.proofs.ListsLaws.Lists.{or_cases, any_append, any_left, any-filter}
use Rattle.time_cache.specs.TimeCache.{Cache, get, holds}
use Rattle.postcard.specs.Message.{Swarm, Neighbors, Message, Gossip, Prune, Graft, IHave, SendGraft, DispatchLazyPush, EvictCache, AnnounceDropped, Event, Received, Broadcast, Fired, Up, Down, Emitted}
use Rattle.protocol.specs.Links.{Links, is_neighbour, eager_in, eager_peers, lazy_peers, add_eager, link_up}
use Rattle.protocol.specs.State.{State, Settings, Counts, Hop, Grafts, Cached, Note, with_queue}
use Rattle.protocol.specs.Run.{Run, Room, begin, with_state, with_counts, act, send, takes}
use Rattle.protocol.specs.Push.{for_peer, notes, note_for, eager_targets, eager_push, lazy_push}
use Rattle.protocol.specs.Gossips.{mark_received, cache_at, announcers, grafted_for, set_first, graft_out, forget_missing, raise_hops, least_from, far_closer, update_links, graft_unless_eager, prune_back, optimize_tree, forget_and_optimise, push_on, take_in, Late, late_kind, on_late_graft_reply, on_new, gossip_size, on_gossip, broadcast_to, broadcast}
use Rattle.protocol.specs.Control.{reply_with, reply, on_graft}
use Rattle.protocol.specs.Ticks.{per_message, oldest, still_cached, on_dispatch_timer, on_announce_dropped_timer}
use Rattle.protocol.specs.Neighbours.{without_notes, forget_peer, on_neighbor_up, on_neighbor_down}
use Rattle.protocol.specs.Handle.{first_event, if_neighbour, on_timer, on_message, handle_message, handle}
use Rattle.protocol.specs.Answer.{accept}
use Rattle.protocol.specs.NoNeighbourPassedOver.{is_down, is_emit, took_gossip, took_broadcast, took_by_event, took, is_tick, fires_tick}
use Rattle.protocol.specs.ReadingsFollowTheTree.{is_payload, payloads_to, announcement_of, tree_link, Due, passed_on, broadcast_by_us, asked_for, WhyQueued, queued_before, stood_recorded, still_queued, peer_down, announced_now, FollowsTree}
use Rattle.protocol.proofs.Walk.{walk-if, walk-eager_push}
use Rattle.protocol.proofs.RecordOnly.{RecordOnly, only-sending, only-send, only-note_dropped}
use Rattle.protocol.proofs.EmitSteps.{quiet-first, quiet-duplicate, emits}
use Rattle.protocol.proofs.Pushes.{queue-dispatch}
use Rattle.protocol.proofs.TakenIn.{member-keys, schedule_dispatch-state, lazy_push-links, lazy_push-settings, first-links, first-settings}
use Rattle.protocol.proofs.Step.{ran_on}
use Rattle.protocol.proofs.TreeLaws.Plain.{announcing, Plain, plain-refl, ◌⨾◌, plain-emit, plain-note_dropped, plain-schedule_dispatch, plain-links, plain-received, plain-cache_at, plain-set_first, plain-settle, plain-on_duplicate, plain-on_ihave, plain-on_prune, plain-on_send_graft_timer, plain-evict, begins}
use Rattle.protocol.proofs.EagerTargets.{copies, one_if, copies-targets}
use Rattle.protocol.proofs.TreeLaws.Pushed.{Pushes, pushes, pushes-one}
use Rattle.protocol.proofs.TreeLaws.Queue.{any-filtered, dispatch-payloads, dispatch-tells, dispatch-only, moved-only, Moves, moves}
use Rattle.protocol.proofs.TreeLaws.Parts.{none-some, not-true, Ready, carrying, Exact, exact-idle, queued-same, queued-more, only-of, each-of, follows-by, follows-plain, follows-idle}

-- the targets of a push, where the run has these links and settings
targets-of : (sender : ℕ) (skip : List ℕ) (x s : State) → x.links ≡ s.links → x.settings ≡ s.settings → eager_targets sender skip x ≡ eager_targets sender skip s
unfolding eager_targets
targets-of sender skip x s l z = rw (l, z) refl

-- the lazy push: the queue grows, nothing is sent
record Lazily (id from round : ℕ) (r r' : Run) : Type 0 where
  payloads : (p : ℕ) → payloads_to p r'.actions ≡ payloads_to p r.actions
  announced : (p j : ℕ) → any (announcing p j) r'.actions ≡ any (announcing p j) r.actions
  queue : r'.state.queue ≡ r.state.queue ++ note_for (filter (λ q. not (eqb q from)) (lazy_peers r.state.links)) id round

lazily : (id round from : ℕ) (r : Run) → Lazily id from round r (lazy_push id round from r)
unfolding lazy_push
lazily id round from r =
    let k = plain-schedule_dispatch (with_state (with_queue (r.state.queue ++ note_for (filter (λ q. not (eqb q from)) (lazy_peers r.state.links)) id round) r.state) r) in
    record { payloads = k.payloads; announced = k.announced; queue = k.queue }

same-growth : (id round : ℕ) {from from' : ℕ} {a a' : List Note} {l l' : Links} → from ≡ from' → a ≡ a' → l ≡ l' →
    a ++ note_for (filter (λ q. not (eqb q from)) (lazy_peers l)) id round ≡ a' ++ note_for (filter (λ q. not (eqb q from')) (lazy_peers l')) id round
same-growth id round f h k = rw (f, h, k) refl

-- nothing after the eager push of a message received touches the grafts

on-grafted : (b : Bool) (x y : Run) {c : Cache Grafts} → x.state.grafted ≡ c → y.state.grafted ≡ c → (if b then x else y).state.grafted ≡ c
on-grafted true x y p q = p
on-grafted false x y p q = q

optimize-grafted : (sender round : ℕ) (hs : List Hop) (r : Run) → (optimize_tree sender round hs r).state.grafted ≡ r.state.grafted
unfolding optimize_tree graft_unless_eager prune_back update_links send
optimize-grafted sender round [] r = refl
optimize-grafted sender round (h ∷ hs) r =
    on-grafted (far_closer r.state.settings.optimization_threshold round (least_from h hs).round) _ r
    (on-grafted (eager_in (least_from h hs).peer r.state.links) r _ refl refl) refl

forget-grafted : (id sender round : ℕ) (r : Run) → (forget_and_optimise id sender round r).state.grafted ≡ r.state.grafted
unfolding forget_and_optimise forget_missing
forget-grafted id sender round r =
    on-grafted (is_neighbour sender r.state.links && not (graft_out sender round (grafted_for id r.state))) _ _
    (optimize-grafted sender (suc round) (announcers id r.state) _) refl

lazy_push-grafted : (id round sender : ℕ) (r : Run) → (lazy_push id round sender r).state.grafted ≡ r.state.grafted
unfolding lazy_push
lazy_push-grafted id round sender r = schedule_dispatch-state (λ s. s.grafted) (λ s. refl) _

same-grafted : (id : ℕ) (x y : State) → x.grafted ≡ y.grafted → grafted_for id x ≡ grafted_for id y
unfolding grafted_for
same-grafted id x y h = rw h refl

-- truth values

regroup : (a b c d : Bool) → (a && (not b && not c && not d)) ≡ ((a && not b) && not c && not d)
regroup true b c d = refl
regroup false true c d = refl
regroup false false c d = refl

regroup-own : (a b : Bool) → (a && (not b && not b && true)) ≡ (a && not b)
regroup-own true true = refl
regroup-own true false = refl
regroup-own false b = refl

module _ (hash : List ℕ → ℕ) (s : State) (links-up : ascending (keys s.links) ≡ true) where
  -- a Swarm message that is not taken in
  gossip-untaken : (q id round : ℕ) (content : List ℕ) (r₁ r : Run) → Ready s r₁ → Plain r₁ r → any is_emit r.actions ≡ false → FollowsTree hash s (Received q (Gossip id content (Swarm round))) r
  gossip-untaken q id round content r₁ r b k n =
      follows-plain hash s (Received q (Gossip id content (Swarm round))) r r₁ b k none (λ p m d. undue p m d)
    where
      none : took hash s.settings (accept (Received q (Gossip id content (Swarm round))) r) ≡ None
      none = unfold took took_by_event took_gossip in (rw n refl)

      undue : (p : ℕ) (m : Message) → Due hash s (Received q (Gossip id content (Swarm round))) r p m → false ≡ true
      undue p _ (passed_on from j round' content' h t l n g) = none-some _ (sym none ∙ t)
      undue p _ (broadcast_by_us content' h t l) = cc
      undue p _ (asked_for j round' m h n g) = cc

  -- one that is
  module _ (now q id round : ℕ) (content : List ℕ) (r₁ : Run) (b : Ready s r₁) where
    new-event : Event
    new-event = Received q (Gossip id content (Swarm round))

    payload : Message
    payload = Gossip id content (Swarm (suc round))

    abbrev cached : Run
    cached = cache_at now id content (suc round) (mark_received now id r₁)

    abbrev firsted : Run
    firsted = set_first id q round cached

    abbrev pushed : Run
    pushed = push_on id content (suc round) q firsted

    abbrev lazied : Run
    lazied = lazy_push id (suc round) q pushed

    abbrev settled : Run
    settled = raise_hops (suc round) (forget_and_optimise id q round lazied)

    abbrev ended : Run
    ended = act (Emitted q content (Swarm round)) settled

    skips : List ℕ
    skips = keys (grafted_for id firsted.state)

    first-plain : Plain r₁ firsted
    first-plain = plain-received now id r₁ ⨾ plain-cache_at now id content (suc round) (mark_received now id r₁) ⨾ plain-set_first id q round cached

    links-first : firsted.state.links ≡ s.links
    links-first = unfold set_first cache_at mark_received in (first-links id _ _ cached.state) ∙ b.links

    settings-first : firsted.state.settings ≡ s.settings
    settings-first = unfold set_first cache_at mark_received in (first-settings id _ _ cached.state) ∙ b.settings

    push-pushes : Pushes (eager_targets q skips s) payload firsted pushed
    unfolding payload skips
    push-pushes = unfold push_on eager_push in (subst (λ (ps : List ℕ). Pushes ps payload firsted pushed) (targets-of q skips firsted.state s links-first settings-first) (pushes (eager_targets q skips firsted.state) id content (suc round) firsted))

    push-only : RecordOnly firsted pushed
    unfolding skips
    push-only = unfold push_on in (walk-eager_push RecordOnly only-sending id content (suc round) q skips firsted)

    lazy-lazily : Lazily id q (suc round) pushed lazied
    lazy-lazily = lazily id (suc round) q pushed

    after-plain : Plain lazied ended
    after-plain = plain-settle id q round lazied ⨾ plain-emit q content (Swarm round) settled

    new-took : took hash s.settings (accept new-event ended) ≡ Some (record { id = id; from = q })
    unfolding new-event
    new-took = unfold took took_by_event took_gossip in (rw (emits q content (Swarm round) settled) refl)

    new-grafted : grafted_for id ended.state ≡ grafted_for id firsted.state
    new-grafted = same-grafted id ended.state firsted.state (unfold act raise_hops in (forget-grafted id q round lazied) ∙ lazy_push-grafted id (suc round) q pushed ∙ push-only.grafted)

    new-queue : ended.state.queue ≡ s.queue ++ note_for (filter (λ p. not (eqb p q)) (lazy_peers s.links)) id (suc round)
    new-queue = after-plain.queue ∙ lazy-lazily.queue
        ∙ same-growth id (suc round) refl (push-pushes.queue ∙ first-plain.queue ∙ b.queue) (push-only.links ∙ links-first)

    new-to : ℕ → Bool
    new-to p = tree_link p s && not (eqb p q) && not (has p (grafted_for id ended.state))

    new-are : (p : ℕ) → payloads_to p ended.actions ≡ one_if (new-to p) payload
    unfolding new-to member skips
    new-are p =
        after-plain.payloads p ∙ lazy-lazily.payloads p ∙ push-pushes.payloads p
        ∙ rw (first-plain.payloads p, b.payloads p) (copies-targets p q skips s payload links-up)
        ∙ ap (λ (c : Bool). one_if c payload) (regroup (member p (eager_peers s.links)) (eqb p s.settings.me) (eqb p q) (member p skips)
        ∙ ap (λ (c : Bool). tree_link p s && not (eqb p q) && not c) (member-keys p (grafted_for id firsted.state) ∙ ap (λ (g : Map ℕ). has p g) (sym new-grafted)))

    new-exact : (p : ℕ) → Exact hash s new-event ended p
    unfolding new-to new-event payload
    new-exact p = record {
      to = new-to p;
      payload = payload;
      are = new-are p;
      due = λ h. passed_on q id round content refl new-took
          (and_left (tree_link p s) (not (eqb p q)) (and_left (tree_link p s && not (eqb p q)) (not (has p (grafted_for id ended.state))) h))
          (not-true (eqb p q) (and_right (tree_link p s) (not (eqb p q)) (and_left (tree_link p s && not (eqb p q)) (not (has p (grafted_for id ended.state))) h)))
          (not-true (has p (grafted_for id ended.state)) (and_right (tree_link p s && not (eqb p q)) (not (has p (grafted_for id ended.state))) h));
      alone = λ m d. alone m d;
    }
      where
        alone : (m : Message) → Due hash s new-event ended p m → (new-to p ≡ true) × (payload ≡ m)
        alone _ (passed_on from j round' content' h t l n g) =
            let i : id ≡ j = cc in
            let f : q ≡ from = cc in
            let n' : eqb p q ≡ false = subst (λ (x : ℕ). eqb p x ≡ false) (sym f) n in
            let g' : has p (grafted_for id ended.state) ≡ false = subst (λ (x : ℕ). has p (grafted_for x ended.state) ≡ false) (sym i) g in
            (and_intro (and_intro l (rw n' refl)) (rw g' refl), cc)
        alone _ (broadcast_by_us content' h t l) = absurd (let z : false ≡ true = cc in true≢ z)
        alone _ (asked_for j round' m h n g) = absurd (let z : false ≡ true = cc in true≢ z)

    gossip-new : FollowsTree hash s new-event ended
    gossip-new =
        follows-by hash s new-event ended new-exact (queued-more hash s new-event ended id q (suc round) new-took new-queue)
        (λ p j. after-plain.announced p j ∙ lazy-lazily.announced p j ∙ push-pushes.announced p j ∙ first-plain.announced p j ∙ b.announced p j)

  gossip-swarm : (now q id round : ℕ) (content : List ℕ) (r₁ : Run) → Ready s r₁ → FollowsTree hash s (Received q (Gossip id content (Swarm round))) (on_gossip hash now q id content (Swarm round) r₁)
  unfolding on_gossip on_late_graft_reply on_new take_in new-event
  gossip-swarm now q id round content r₁ b =
      cases (eqb (hash content) id)
      (λ v. rw v (cases (holds id r₁.state.received)
      (λ k. rw k (gossip-untaken q id round content r₁ _ b (plain-on_duplicate q id late r₁) (quiet-duplicate q id late r₁ ∙ b.emits)))
      (λ k. rw k (gossip-new now q id round content r₁ b))))
      (λ v. rw v (gossip-untaken q id round content r₁ r₁ b (plain-refl r₁) b.emits))
    where
      late : Late
      late = late_kind q (Swarm round) r₁.state.links (get id r₁.state.grafted)

  gossip-neighbours : (now q id : ℕ) (content : List ℕ) (r₁ : Run) → Ready s r₁ → FollowsTree hash s (Received q (Gossip id content Neighbors)) (on_gossip hash now q id content Neighbors r₁)
  unfolding on_gossip on_late_graft_reply on_new carrying took took_by_event took_gossip
  gossip-neighbours now q id content r₁ b = follows-idle hash s (Received q (Gossip id content Neighbors)) _ r₁ b
      (walk-if Plain (not (eqb (hash content) id)) (plain-refl r₁) (walk-if Plain (holds id r₁.state.received) (plain-on_duplicate q id _ r₁) (plain-emit q content Neighbors r₁))) refl refl

  -- broadcasts

  broadcast-large : (content : List ℕ) (r₁ : Run) → Ready s r₁ → leb (gossip_size (length content)) s.settings.max_message_size ≡ false → FollowsTree hash s (Broadcast content) r₁
  broadcast-large content r₁ b l = follows-plain hash s (Broadcast content) r₁ r₁ b (plain-refl r₁) none (λ p m d. undue p m d)
    where
      none : took hash s.settings (accept (Broadcast content) r₁) ≡ None
      none = unfold took took_by_event took_broadcast in (rw l refl)

      undue : (p : ℕ) (m : Message) → Due hash s (Broadcast content) r₁ p m → false ≡ true
      undue p _ (passed_on from j round content' h t k n g) = cc
      undue p _ (broadcast_by_us content' h t k) = none-some _ (sym none ∙ t)
      undue p _ (asked_for j round m h n g) = cc

  module _ (now : ℕ) (content : List ℕ) (r₁ : Run) (b : Ready s r₁) (small : leb (gossip_size (length content)) s.settings.max_message_size ≡ true) where
    abbrev own-cached : Run
    own-cached = cache_at now (hash content) content 0 (mark_received now (hash content) r₁)

    abbrev own-lazied : Run
    own-lazied = lazy_push (hash content) 0 r₁.state.settings.me own-cached

    abbrev own-ended : Run
    own-ended = eager_push (hash content) content 0 r₁.state.settings.me [] own-lazied

    me-same : r₁.state.settings.me ≡ s.settings.me
    me-same = ap (λ (c : Settings). c.me) b.settings

    own-plain : Plain r₁ own-cached
    own-plain = plain-received now (hash content) r₁ ⨾ plain-cache_at now (hash content) content 0 (mark_received now (hash content) r₁)

    own-lazily : Lazily (hash content) r₁.state.settings.me 0 own-cached own-lazied
    own-lazily = lazily (hash content) 0 r₁.state.settings.me own-cached

    own-links : own-lazied.state.links ≡ s.links
    own-links = lazy_push-links (hash content) 0 r₁.state.settings.me own-cached ∙ unfold cache_at mark_received in b.links

    own-settings : own-lazied.state.settings ≡ s.settings
    own-settings = lazy_push-settings (hash content) 0 r₁.state.settings.me own-cached ∙ unfold cache_at mark_received in b.settings

    own-pushes : Pushes (eager_targets s.settings.me [] s) (Gossip (hash content) content (Swarm 0)) own-lazied own-ended
    unfolding eager_push
    own-pushes = subst (λ (ps : List ℕ). Pushes ps (Gossip (hash content) content (Swarm 0)) own-lazied own-ended)
        (targets-of r₁.state.settings.me [] own-lazied.state s own-links own-settings ∙ ap (λ (x : ℕ). eager_targets x [] s) me-same)
        (pushes (eager_targets r₁.state.settings.me [] own-lazied.state) (hash content) content 0 own-lazied)

    own-took : took hash s.settings (accept (Broadcast content) own-ended) ≡ Some (record { id = hash content; from = s.settings.me })
    unfolding took took_by_event took_broadcast
    own-took = rw small refl

    own-queue : own-ended.state.queue ≡ s.queue ++ note_for (filter (λ p. not (eqb p s.settings.me)) (lazy_peers s.links)) (hash content) 0
    own-queue = own-pushes.queue ∙ own-lazily.queue ∙ same-growth (hash content) 0 me-same (own-plain.queue ∙ b.queue) (unfold cache_at mark_received in b.links)

    own-are : (p : ℕ) → payloads_to p own-ended.actions ≡ one_if (tree_link p s) (Gossip (hash content) content (Swarm 0))
    unfolding member
    own-are p =
        own-pushes.payloads p ∙ rw (own-lazily.payloads p, own-plain.payloads p, b.payloads p) (copies-targets p s.settings.me [] s (Gossip (hash content) content (Swarm 0)) links-up)
        ∙ ap (λ (c : Bool). one_if c (Gossip (hash content) content (Swarm 0))) (regroup-own (member p (eager_peers s.links)) (eqb p s.settings.me))

    own-exact : (p : ℕ) → Exact hash s (Broadcast content) own-ended p
    own-exact p = record {
      to = tree_link p s;
      payload = Gossip (hash content) content (Swarm 0);
      are = own-are p;
      due = λ h. broadcast_by_us content refl own-took h;
      alone = λ m d. alone m d;
    }
      where
        alone : (m : Message) → Due hash s (Broadcast content) own-ended p m → (tree_link p s ≡ true) × (Gossip (hash content) content (Swarm 0) ≡ m)
        alone _ (passed_on from j round content' h t l n g) = absurd (let z : false ≡ true = cc in true≢ z)
        alone _ (broadcast_by_us content' h t l) = let c : content ≡ content' = cc in (l, cc)
        alone _ (asked_for j round' m h n g) = absurd (let z : false ≡ true = cc in true≢ z)

    broadcast-small : FollowsTree hash s (Broadcast content) own-ended
    broadcast-small =
        follows-by hash s (Broadcast content) own-ended own-exact (queued-more hash s (Broadcast content) own-ended (hash content) s.settings.me 0 own-took own-queue)
        (λ p j. own-pushes.announced p j ∙ own-lazily.announced p j ∙ own-plain.announced p j ∙ b.announced p j)

  broadcasts : (now : ℕ) (content : List ℕ) (r₁ : Run) → Ready s r₁ → FollowsTree hash s (Broadcast content) (broadcast hash now content r₁)
  unfolding broadcast
  broadcasts now content r₁ b =
      cases (leb (gossip_size (length content)) s.settings.max_message_size)
      (λ e. rw (fits e) (unfold broadcast_to in (broadcast-small now content r₁ b e)))
      (λ e. rw (large e) (broadcast-large content r₁ b e))
    where
      fits : leb (gossip_size (length content)) s.settings.max_message_size ≡ true → ltb r₁.state.settings.max_message_size (gossip_size (length content)) ≡ false
      fits e = rw b.settings (le-ltb s.settings.max_message_size (gossip_size (length content)) (leb-true (gossip_size (length content)) s.settings.max_message_size e))

      large : leb (gossip_size (length content)) s.settings.max_message_size ≡ false → ltb r₁.state.settings.max_message_size (gossip_size (length content)) ≡ true
      large e = rw b.settings (lt-ltb s.settings.max_message_size (gossip_size (length content)) (leb-false (gossip_size (length content)) s.settings.max_message_size e))

  -- Grafts

  -- nothing is due to a stranger, nor of what is not cached
  graft-undue : (q id round : ℕ) (r : Run) → ((m : Cached) → is_neighbour q s.links ≡ true → get id r.state.cache ≡ Some m → false ≡ true) →
      (p : ℕ) (m : Message) → Due hash s (Received q (Graft (Some id) round)) r p m → false ≡ true
  graft-undue q id round r w p _ (passed_on from j round' content' h t l n g) = cc
  graft-undue q id round r w p _ (broadcast_by_us content' h t l) = cc
  graft-undue q id round r w p _ (asked_for j round' m h n g) =
      let i : id ≡ j = cc in
      let f : q ≡ p = cc in
      w m (subst (λ (x : ℕ). is_neighbour x s.links ≡ true) (sym f) n) (subst (λ (x : ℕ). get x r.state.cache ≡ Some m) (sym i) g)

  module _ (q id round : ℕ) (c : Cached) (r₁ r₂ : Run) (b : Ready s r₁) (k : Plain r₁ r₂) (same : r₂.state.cache ≡ r₁.state.cache) (neighbour : is_neighbour q s.links ≡ true) (cached : get id r₁.state.cache ≡ Some c) where
    answer : Message
    answer = Gossip id c.content (Swarm c.round)

    abbrev answered : Run
    answered = reply_with q id (Some c) r₂

    record Answers (r : Run) : Type 0 where
      pushes : Pushes (q ∷ []) answer r₂ r
      cache : r.state.cache ≡ r₂.state.cache

    answers-send : Answers (send q answer r₂)
    unfolding is_payload announcement_of answer
    answers-send = record { pushes = pushes-one q answer r₂ refl (λ j. refl); cache = (only-send q answer r₂).cache }

    answers : Answers answered
    unfolding reply_with answer
    answers =
        cases (takes q r₂) (λ t. rw t answers-send)
        (λ t. rw t (let n = plain-note_dropped q (record { id = id; round = c.round } ∷ []) (send q answer r₂) in
        record {
          pushes = record {
            payloads = λ p. n.payloads p ∙ answers-send.pushes.payloads p;
            announced = λ p j. n.announced p j ∙ answers-send.pushes.announced p j;
            queue = n.queue ∙ answers-send.pushes.queue;
          };
          cache = (only-note_dropped q (record { id = id; round = c.round } ∷ []) (send q answer r₂)).cache ∙ answers-send.cache;
        }))

    cached-after : get id answered.state.cache ≡ Some c
    cached-after = ap (λ (x : Cache Cached). get id x) (answers.cache ∙ same) ∙ cached

    answered-exact : (p : ℕ) → Exact hash s (Received q (Graft (Some id) round)) answered p
    unfolding copies answer
    answered-exact p = record {
      to = eqb q p;
      payload = answer;
      are = answers.pushes.payloads p ∙ rw (k.payloads p, b.payloads p) refl;
      due = λ h. due (eqb-true q p h);
      alone = λ m d. alone m d;
    }
      where
        due : q ≡ p → Due hash s (Received q (Graft (Some id) round)) answered p answer
        due f = asked_for id round c (ap (λ (x : ℕ). Received x (Graft (Some id) round)) f) (subst (λ (x : ℕ). is_neighbour x s.links ≡ true) f neighbour) cached-after

        alone : (m : Message) → Due hash s (Received q (Graft (Some id) round)) answered p m → (eqb q p ≡ true) × (answer ≡ m)
        alone _ (passed_on from j round' content' h t l n g) = absurd (let z : false ≡ true = cc in true≢ z)
        alone _ (broadcast_by_us content' h t l) = absurd (let z : false ≡ true = cc in true≢ z)
        alone _ (asked_for j round' m h n g) =
            let i : id ≡ j = cc in
            let f : q ≡ p = cc in
            let z : get id answered.state.cache ≡ Some m = subst (λ (x : ℕ). get x answered.state.cache ≡ Some m) (sym i) g in
            let y : Some c ≡ Some m = sym cached-after ∙ z in
            let w : c ≡ m = cc in
            (eq-eqb q p f, rw (i, w) refl)

    graft-answered : FollowsTree hash s (Received q (Graft (Some id) round)) answered
    unfolding took took_by_event took_gossip
    graft-answered =
        follows-by hash s (Received q (Graft (Some id) round)) answered answered-exact
        (queued-same hash s (Received q (Graft (Some id) round)) answered (answers.pushes.queue ∙ k.queue ∙ b.queue) refl)
        (λ p j. answers.pushes.announced p j ∙ k.announced p j ∙ b.announced p j)

  graft-none : (q round : ℕ) (r₁ : Run) → Ready s r₁ → FollowsTree hash s (Received q (Graft None round)) (if_neighbour q (on_graft q None) r₁)
  unfolding if_neighbour on_graft reply took took_by_event took_gossip carrying
  graft-none q round r₁ b = follows-idle hash s (Received q (Graft None round)) _ r₁ b (walk-if Plain (is_neighbour q r₁.state.links) (plain-links (add_eager q) r₁) (plain-refl r₁)) refl refl

  graft-some : (q id round : ℕ) (r₁ : Run) → Ready s r₁ → FollowsTree hash s (Received q (Graft (Some id) round)) (if_neighbour q (on_graft q (Some id)) r₁)
  unfolding if_neighbour on_graft reply update_links
  graft-some q id round r₁ b =
      cases (is_neighbour q r₁.state.links)
      (λ n. rw n (on (get id r₁.state.cache) refl (rw b.links at n)))
      (λ n. rw n (follows-plain hash s event r₁ r₁ b (plain-refl r₁) (none r₁) (graft-undue q id round r₁ (λ m y g. sym (rw b.links at n) ∙ y))))
    where
      event : Event
      event = Received q (Graft (Some id) round)

      none : (r : Run) → took hash s.settings (accept event r) ≡ None
      none r = unfold took took_by_event took_gossip in refl

      r₂ : Run
      r₂ = update_links (add_eager q) r₁

      on : (o : Option Cached) → get id r₁.state.cache ≡ o → is_neighbour q s.links ≡ true → FollowsTree hash s event (reply_with q id o r₂)
      on None h y = unfold reply_with in (follows-plain hash s event r₂ r₁ b (plain-links (add_eager q) r₁) (none r₂) (graft-undue q id round r₂ (λ m y g. none-some m (sym h ∙ g))))
      on (Some c) h y = graft-answered q id round c r₁ r₂ b (plain-links (add_eager q) r₁) refl y h

  -- timers

  ticked-dispatch : (r₁ : Run) → Ready s r₁ → 1 ≤ per_message s.settings.max_message_size → FollowsTree hash s (Fired DispatchLazyPush) (on_dispatch_timer r₁)
  unfolding took took_by_event carrying fires_tick is_tick
  ticked-dispatch r₁ b one =
      record {
        only_due = λ p m before after h. only-of hash s (Fired DispatchLazyPush) r p m before after (exact p) h;
        each_due = λ p m d. each-of hash s (Fired DispatchLazyPush) r p m (exact p) d;
        each_queued = λ p t h l. none-some t h;
        only_queued = λ p id h. true≢ (unfold any in (rw (queue-dispatch r₁) at h));
        until_announced = λ p id h. announced_now refl (dispatch-tells p id r₁ (rw b.settings one) (rw b.queue h));
        only_announced = λ p id h. record { ticks = refl; stood_queued = rw (← b.queue) (dispatch-only p id r₁ (b.announced p id) h) };
      }
    where
      r : Run
      r = on_dispatch_timer r₁

      exact : (p : ℕ) → Exact hash s (Fired DispatchLazyPush) r p
      exact p = exact-idle hash s (Fired DispatchLazyPush) r p (dispatch-payloads p 0 r₁ p ∙ b.payloads p) refl

  ticked-announce : (r₁ : Run) → Ready s r₁ → FollowsTree hash s (Fired AnnounceDropped) (on_announce_dropped_timer r₁)
  unfolding took took_by_event carrying fires_tick is_tick
  ticked-announce r₁ b =
      follows-by hash s (Fired AnnounceDropped) r (λ p. exact-idle hash s (Fired AnnounceDropped) r p (x.payloads p ∙ b.payloads p) refl)
      (record {
        each_queued = λ p t h l. none-some t h;
        only_queued = λ p id h. on p id (or_cases (any (notes p id) r₁.state.queue) (any (notes p id) new) (sym (any_append (notes p id) r₁.state.queue new) ∙ rw (← x.queue) h));
        until_announced = λ p id h. still_queued (rw x.queue (any_left (notes p id) r₁.state.queue new (rw b.queue h)));
      })
      (λ p id. x.announced p id ∙ b.announced p id)
    where
      r : Run
      r = on_announce_dropped_timer r₁

      new : List Note
      new = oldest [] (still_cached r₁.state)

      x : Moves r₁ r
      x = moves r₁

      on : (p id : ℕ) → (any (notes p id) r₁.state.queue ≡ true) ⊎ (any (notes p id) new ≡ true) → WhyQueued hash s (Fired AnnounceDropped) r p id
      on p id (inl h) = queued_before (rw (← b.queue) h)
      on p id (inr h) = stood_recorded refl (rw (← b.dropped) (moved-only (notes p id) r₁.state h))

  -- neighbours

  told-down : (q : ℕ) (r₁ : Run) → Ready s r₁ → FollowsTree hash s (Down q) (on_neighbor_down q r₁)
  unfolding took took_by_event carrying is_down on_neighbor_down forget_peer without_notes
  told-down q r₁ b =
      follows-by hash s (Down q) r (λ p. exact-idle hash s (Down q) r p (b.payloads p) refl)
      (record {
        each_queued = λ p t h l. none-some t h;
        only_queued = λ p id h. queued_before (rw (← b.queue) (any-filtered (notes p id) (λ n. not (for_peer q n)) r₁.state.queue h));
        until_announced = λ p id h. cases (eqb p q) (λ e. peer_down e) (λ e. still_queued (any-filter (notes p id) (λ n. not (for_peer q n)) (λ n k. stay p id n e k) r₁.state.queue (rw b.queue h)));
      })
      b.announced
    where
      r : Run
      r = on_neighbor_down q r₁

      stay : (p id : ℕ) (n : Note) → eqb p q ≡ false → notes p id n ≡ true → not (eqb n.peer q) ≡ true
      stay p id n e k = rw (eqb-true n.peer p (and_left (eqb n.peer p) (eqb n.id id) k), e)

  -- an event upon a state

  ready : (n : Counts) (rooms : List Room) → Ready s (begin s n rooms)
  unfolding payloads_to any
  ready n rooms = record { payloads = λ p. refl; announced = λ p id. refl; emits = refl; queue = refl; links = refl; settings = refl; dropped = refl }

  first-ready : (now : ℕ) (n : Counts) (rooms : List Room) → Ready s (first_event now (begin s n rooms))
  first-ready now n rooms =
      let a = begins now (begin s n rooms) in
      let b = ready n rooms in
      record {
        payloads = λ p. a.plain.payloads p ∙ b.payloads p;
        announced = λ p id. a.plain.announced p id ∙ b.announced p id;
        emits = quiet-first now (begin s n rooms) ∙ b.emits;
        queue = a.plain.queue;
        links = a.links;
        settings = a.settings;
        dropped = a.dropped;
      }

  counted : (c : Counts) (r : Run) → Ready s r → Ready s (with_counts c r)
  counted c r b = record { payloads = b.payloads; announced = b.announced; emits = b.emits; queue = b.queue; links = b.links; settings = b.settings; dropped = b.dropped }

  received : (now q : ℕ) (m : Message) (r₁ : Run) → Ready s r₁ → FollowsTree hash s (Received q m) (on_message hash now q m r₁)
  unfolding on_message if_neighbour took took_by_event took_gossip carrying
  received now q (Gossip id content (Swarm round)) r₁ b = gossip-swarm now q id round content r₁ b
  received now q (Gossip id content Neighbors) r₁ b = gossip-neighbours now q id content r₁ b
  received now q Prune r₁ b = follows-idle hash s (Received q Prune) _ r₁ b (walk-if Plain (is_neighbour q r₁.state.links) (plain-on_prune q r₁) (plain-refl r₁)) refl refl
  received now q (Graft None round) r₁ b = graft-none q round r₁ b
  received now q (Graft (Some id) round) r₁ b = graft-some q id round r₁ b
  received now q (IHave hs) r₁ b = follows-idle hash s (Received q (IHave hs)) _ r₁ b (walk-if Plain (is_neighbour q r₁.state.links) (plain-on_ihave q hs r₁) (plain-refl r₁)) refl refl

  pub event-follows : (n : Counts) (rooms : List Room) (now : ℕ) (e : Event) → 1 ≤ per_message s.settings.max_message_size → FollowsTree hash s e (ran_on hash s n rooms now e)
  unfolding handle handle_message on_timer on_neighbor_up took took_by_event carrying
  event-follows n rooms now (Received q m) one = received now q m _ (counted _ _ (first-ready now n rooms))
  event-follows n rooms now (Broadcast content) one = broadcasts now content _ (first-ready now n rooms)
  event-follows n rooms now (Fired (SendGraft id)) one = follows-idle hash s (Fired (SendGraft id)) _ _ (first-ready now n rooms) (plain-on_send_graft_timer now id _) refl refl
  event-follows n rooms now (Fired DispatchLazyPush) one = ticked-dispatch _ (first-ready now n rooms) one
  event-follows n rooms now (Fired EvictCache) one = follows-idle hash s (Fired EvictCache) _ _ (first-ready now n rooms) (plain-evict now _) refl refl
  event-follows n rooms now (Fired AnnounceDropped) one = ticked-announce _ (first-ready now n rooms)
  event-follows n rooms now (Up as_quiet q) one = follows-idle hash s (Up as_quiet q) _ _ (ready n rooms) (plain-links (link_up as_quiet q) _) refl refl
  event-follows n rooms now (Down q) one = told-down q _ (ready n rooms)
