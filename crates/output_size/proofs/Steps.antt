-- How many bytes the actions of each step have, but a dispatch's.
-- Assumes nothing.
use Rattle.std.proofs.Common.{ℕ, suc, ◌+◌, ◌*◌, ◌≤◌, ◌≡◌, refl, Bool, true, false, not, ◌&&◌, ◌||◌, List, [], ◌∷◌, ◌++◌, map, arith, eqb, leb, length, leb-true, if◌then◌else◌, Option, Some, None}
use Rattle.std.proofs.lemmas.Nat.{mul-le}
use Rattle.storage.specs.Lists.Base.{is_empty, member, all, sum}
use Rattle.storage.specs.Lists.Map.{Map, Entry, keys, lookup, remove}
use Rattle.storage.proofs.ListsLaws.MapLaws.{cases, true≢, all_head, all_tail}
use Rattle.storage.proofs.ListsLaws.ListLaws.{length-filter, count-length}
use Rattle.time_cache.specs.TimeCache.{Timed, Expiry, get, value_of, holds, expires_at, pop, due, popped, expired_keys}
use Rattle.postcard.specs.Number.{number_length}
use Rattle.postcard.specs.Sizes.{gossip_size}
use Rattle.postcard.specs.Message.{Delivery, Swarm, Ihave, Message, Gossip, Prune, Graft, IHave, SendGraft, DispatchLazyPush, EvictCache, AnnounceDropped, Action, Sent, Scheduled, Emitted, Forgotten}
use Rattle.postcard.proofs.Lengths.{number-few}
use Rattle.protocol.specs.Links.{Mark, Links, is_eager, peers_marked, eager_peers, is_neighbour, eager_in}
use Rattle.protocol.specs.State.{State, Hop, Cached}
use Rattle.protocol.specs.Run.{Room}
use Rattle.protocol.specs.Push.{eager_targets}
use Rattle.protocol.specs.Gossips.{announcers, grafted_for, graft_out, least_from, far_closer, Late, duplicate, repeated, faster}
use Rattle.protocol.specs.Ticks.{oldest, younger, still_cached}
use Rattle.decide.specs.Lengths.{delivery_length, wanted_length, message_length, timer_length, action_length}
use Rattle.decide.specs.Rooms.{kth_taken, first_send, back_peers}
use Rattle.decide.specs.RecordGrowth.{announce_action, push_actions}
use Rattle.decide.specs.Settled.{forgotten_actions, settled_actions}
use Rattle.decide.specs.NewIds.{new_ids, known_timer}
use Rattle.decide.specs.ActionsAfter.{evict_actions, dispatch_action, announce_actions, reply_actions, graft_actions, ask_actions, send_graft_actions, ihave_actions, broadcast_actions, late_actions, optimise_actions, new_actions}
use Rattle.output_size.proofs.Weights.{number-some, number-one, number-suc, weight, weight-append, weight-one, weight-none, weight-cons, weight-each, weight-if, sent-weight, tick-weight}

-- a cached message, as it is sent on, takes at most M + 1 bytes
unfoldable pub entry_fits : ℕ → Entry (Timed Cached) → Bool
entry_fits M e = leb (34 + number_length (length e.value.value.content) + length e.value.value.content + number_length e.value.value.round) (M + 1)

-- how long the reply of what is cached is
reply_length : Option Cached → ℕ
reply_length None = 0
reply_length (Some c) = 34 + number_length (length c.content) + length c.content + number_length c.round

reply-fits : (M id : ℕ) (m : Map (Timed Cached)) → all (entry_fits M) m ≡ true → reply_length (value_of (lookup id m)) ≤ M + 1
unfolding lookup value_of reply_length entry_fits
reply-fits M id [] h = omega arith
reply-fits M id (e ∷ m) h =
    cases (eqb id e.key)
    (λ t. rw t (leb-true (34 + number_length (length e.value.value.content) + length e.value.value.content + number_length e.value.value.round) (M + 1) (all_head (entry_fits M) e m h)))
    (λ t. rw t (reply-fits M id m (all_tail (entry_fits M) e m h)))

-- an eviction tells no more keys than there are
fewer : {A : Type 0} (k : ℕ) (m : Map (Timed A)) → length (remove k m) ≤ length m
unfolding remove
fewer k [] = omega arith
fewer k (e ∷ m) = cases (eqb k e.key) (λ y. rw y (omega (arith, fewer k m))) (λ y. rw y (omega (arith, fewer k m)))

shorter : {A : Type 0} (k time : ℕ) (m : Map (Timed A)) → expires_at time (lookup k m) ≡ true → suc (length (remove k m)) ≤ length m
unfolding remove lookup expires_at
shorter k time [] h = true≢ h
shorter k time (e ∷ m) h = cases (eqb k e.key) (λ y. rw y (omega (arith, fewer k m))) (λ y. rw y (omega (arith, shorter k time m (rw y at h))))

popped-few : {A : Type 0} (xs : List Expiry) (m : Map (Timed A)) → length (popped xs m) ≤ length m
unfolding popped pop
popped-few [] m = omega arith
popped-few (x ∷ xs) m =
    cases (expires_at x.time (lookup x.key m))
    (λ t. rw t (omega (arith, popped-few xs (remove x.key m), shorter x.key x.time m t)))
    (λ t. rw t (popped-few xs m))

forgotten-weight : (now : ℕ) (s : State) → weight (forgotten_actions now s) ≤ 33 * length s.cache.entries
unfolding forgotten_actions expired_keys
forgotten-weight now s =
    omega (
      arith,
      weight-each (λ id. Forgotten id) 33 (λ id. unfold action_length in (omega arith)) (popped (due now s.cache.expiry) s.cache.entries),
      popped-few (due now s.cache.expiry) s.cache.entries,
    )

told-weight : (now : ℕ) (s : State) → weight (forgotten_actions now s ++ (Scheduled s.settings.cache_evict_interval EvictCache ∷ [])) ≤ 33 * length s.cache.entries + 12
unfolding timer_length
told-weight now s =
    omega (
      arith,
      weight-append (forgotten_actions now s) (Scheduled s.settings.cache_evict_interval EvictCache ∷ []),
      forgotten-weight now s,
      weight-one (Scheduled s.settings.cache_evict_interval EvictCache),
      tick-weight s.settings.cache_evict_interval EvictCache refl,
    )

pub evict-weight : (now : ℕ) (s : State) → weight (evict_actions now s) ≤ 33 * length s.cache.entries + 12
unfolding evict_actions
evict-weight now s = told-weight now s

-- a first event finds nothing cached
pub settled-weight : (now : ℕ) (s : State) → (s.init ≡ false → s.cache.entries ≡ []) → weight (settled_actions now s) ≤ 12
unfolding settled_actions
settled-weight now s none = by s.init none
  where
    nothing : s.cache.entries ≡ [] → length s.cache.entries ≡ 0
    nothing e = rw e refl

    by : (b : Bool) → (b ≡ false → s.cache.entries ≡ []) → weight (if b then [] else (forgotten_actions now s ++ (Scheduled s.settings.cache_evict_interval EvictCache ∷ []))) ≤ 12
    by true h = omega (arith, weight-none)
    by false h = omega (arith, told-weight now s, nothing (h refl))

dispatch_action-weight : (s : State) → weight (dispatch_action s) ≤ 12
unfolding dispatch_action timer_length
dispatch_action-weight s =
    weight-if 12 _ _ s.timers.dispatch (omega (arith, weight-none))
    (omega (arith, weight-one (Scheduled s.settings.dispatch_timeout DispatchLazyPush), tick-weight s.settings.dispatch_timeout DispatchLazyPush refl))

announce_action-weight : (stands flag : Bool) → weight (announce_action stands flag) ≤ 12
unfolding announce_action timer_length
announce_action-weight stands flag =
    weight-if 12 _ _ (stands && not flag) (omega (arith, weight-one (Scheduled 1000 AnnounceDropped), tick-weight 1000 AnnounceDropped refl)) (omega (arith, weight-none))

pub announce-weight : (s : State) → weight (announce_actions s) ≤ 24
unfolding announce_actions
announce-weight s =
    let x : List Action = if is_empty (s.queue ++ oldest [] (still_cached s)) then [] else dispatch_action s in
    let y : List Action = announce_action (not (is_empty (younger [] (still_cached s)))) false in
    let a : weight x ≤ 12 = weight-if 12 _ _ (is_empty (s.queue ++ oldest [] (still_cached s))) (omega (arith, weight-none)) (dispatch_action-weight s) in
    let b : weight y ≤ 12 = announce_action-weight (not (is_empty (younger [] (still_cached s)))) false in
    omega (arith, weight-append x y, a, b)

-- the same message to each of these peers
sends-weight : (rooms : List Room) (m : Message) (ps : List ℕ) (n k : ℕ) → length ps ≤ n → 12 + message_length m ≤ k → weight (map (first_send rooms m) ps) ≤ n * k
unfolding first_send
sends-weight rooms m ps n k h j =
    omega (arith, weight-each (first_send rooms m) k (λ p. omega (arith, sent-weight p (kth_taken 1 p rooms) m, j)) ps, mul-le (length ps) k n k h (omega arith))

push-weight : (rooms : List Room) (m : Message) (ps : List ℕ) (flag : Bool) (n k : ℕ) → length ps ≤ n → 12 + message_length m ≤ k → weight (push_actions rooms m ps flag) ≤ n * k + 12
unfolding push_actions
push-weight rooms m ps flag n k h j =
    omega (arith, weight-append (map (first_send rooms m) ps) (announce_action (not (is_empty (back_peers rooms ps))) flag), sends-weight rooms m ps n k h j, announce_action-weight (not (is_empty (back_peers rooms ps))) flag)

-- there are no more eager peers than links
marked-few : (f : Mark → Bool) (l : Links) → length (peers_marked f l) ≤ length l
unfolding peers_marked
marked-few f [] = omega arith
marked-few f (e ∷ l) = cases (f e.value) (λ q. rw q (omega (arith, marked-few f l))) (λ q. rw q (omega (arith, marked-few f l)))

targets-few : (sender : ℕ) (skip : List ℕ) (s : State) → length (eager_targets sender skip s) ≤ length s.links
unfolding eager_targets eager_peers
targets-few sender skip s =
    let keep : ℕ → Bool = λ p. not (eqb p s.settings.me) && not (eqb p sender) && not (member p skip) in
    let ps : List ℕ = peers_marked is_eager s.links in
    omega (arith, length-filter keep ps, count-length keep ps, marked-few is_eager s.links)

pub gossip-length : (id : ℕ) (content : List ℕ) (round : ℕ) → message_length (Gossip id content (Swarm round)) ≡ 34 + number_length (length content) + length content + number_length round
unfolding message_length delivery_length
gossip-length id content round = omega arith

reply-weight : (rooms : List Room) (sender id : ℕ) (o : Option Cached) (s : State) → weight (reply_actions rooms sender id o s) ≤ 24 + reply_length o
unfolding reply_actions reply_length
reply-weight rooms sender id None s = omega (arith, weight-none)
reply-weight rooms sender id (Some c) s =
    omega (arith, push-weight rooms (Gossip id c.content (Swarm c.round)) (sender ∷ []) s.timers.announce 1 (12 + message_length (Gossip id c.content (Swarm c.round))) (omega arith) (omega arith), gossip-length id c.content c.round)

pub graft-weight : (M : ℕ) (rooms : List Room) (sender : ℕ) (wanted : Option ℕ) (s : State) → all (entry_fits M) s.cache.entries ≡ true → weight (graft_actions rooms sender wanted s) ≤ M + 25
unfolding graft_actions get
graft-weight M rooms sender None s h = omega (arith, weight-none)
graft-weight M rooms sender (Some id) s h = omega (arith, reply-weight rooms sender id (value_of (lookup id s.cache.entries)) s, reply-fits M id s.cache.entries h)

ask-weight : (rooms : List Room) (id : ℕ) (hs : List Hop) (s : State) → weight (ask_actions rooms id hs s) ≤ 100
unfolding ask_actions first_send
ask-weight rooms id [] s = omega (arith, weight-none)
ask-weight rooms id (h ∷ hs) s =
    let a : Action = Sent h.peer (kth_taken 1 h.peer rooms) (Graft (Some id) h.round) in
    let b : Action = Scheduled s.settings.graft_timeout_2 (SendGraft id) in
    omega (arith, weight-cons a (b ∷ []), weight-one b, sent-weight h.peer (kth_taken 1 h.peer rooms) (Graft (Some id) h.round), graft-length (Some id) h.round, again b refl)
  where
    graft-length : (o : Option ℕ) (r : ℕ) → message_length (Graft o r) ≤ 44
    graft-length None r = unfold message_length wanted_length in (omega (arith, number-few r))
    graft-length (Some i) r = unfold message_length wanted_length in (omega (arith, number-few r))

    again : (b : Action) → b ≡ Scheduled s.settings.graft_timeout_2 (SendGraft id) → action_length b ≤ 44
    again b e = rw e (unfold action_length timer_length in (omega (arith, number-few s.settings.graft_timeout_2)))

pub send_graft-weight : (rooms : List Room) (id : ℕ) (s : State) → weight (send_graft_actions rooms id s) ≤ 100
unfolding send_graft_actions
send_graft-weight rooms id s = weight-if 100 _ _ (holds id s.received) (omega (arith, weight-none)) (ask-weight rooms id (announcers id s) s)

new-few : (known : ℕ → Bool) (seen : List ℕ) (hs : List Ihave) → length (new_ids known seen hs) ≤ length hs
unfolding new_ids
new-few known seen [] = omega arith
new-few known seen (h ∷ hs) =
    cases (known h.id || member h.id seen)
    (λ e. rw e (omega (arith, new-few known (h.id ∷ seen) hs)))
    (λ e. rw e (omega (arith, new-few known (h.id ∷ seen) hs)))

-- an IHave has at least 33 bytes for each announcement
announced-some : (hs : List Ihave) → 33 * length hs ≤ sum (λ h. 32 + number_length h.round) hs
unfolding sum
announced-some [] = omega arith
announced-some (h ∷ hs) = omega (arith, number-some h.round, announced-some hs)

ihaves-some : (hs : List Ihave) → 33 * length hs + 2 ≤ message_length (IHave hs)
unfolding message_length
ihaves-some hs = omega (arith, number-some (length hs), announced-some hs)

pub ihave-weight : (M : ℕ) (hs : List Ihave) (s : State) → message_length (IHave hs) ≤ M → weight (ihave_actions hs s) ≤ 2 * M
unfolding ihave_actions
ihave-weight M hs s h =
    omega (
      arith,
      weight-each (λ i. Scheduled s.settings.graft_timeout_1 (SendGraft i)) 44 (λ i. unfold action_length timer_length in (omega (arith, number-few s.settings.graft_timeout_1))) (new_ids (known_timer s) [] hs),
      new-few (known_timer s) [] hs,
      ihaves-some hs,
      h,
    )

pub broadcast-weight : (M N : ℕ) (rooms : List Room) (id : ℕ) (content : List ℕ) (s : State) → length s.links ≤ N → gossip_size (length content) ≤ M → weight (broadcast_actions rooms id content s) ≤ N * (M + 13) + 24
unfolding broadcast_actions gossip_size
broadcast-weight M N rooms id content s n h =
    let x : List Action = push_actions rooms (Gossip id content (Swarm 0)) (eager_targets s.settings.me [] s) s.timers.announce in
    let a : weight x ≤ N * (M + 13) + 12 =
    push-weight rooms (Gossip id content (Swarm 0)) (eager_targets s.settings.me [] s) s.timers.announce N (M + 13) (omega (arith, targets-few s.settings.me [] s, n)) (omega (arith, gossip-length id content 0, number-one 0 (omega arith), h)) in
    omega (arith, weight-append (dispatch_action s) x, dispatch_action-weight s, a)

prune-weight : (p : ℕ) (taken : Bool) → action_length (Sent p taken Prune) ≤ 13
prune-weight p taken = unfold message_length in (omega (arith, sent-weight p taken Prune))

pub late-weight : (rooms : List Room) (sender : ℕ) (k : Late) → weight (late_actions rooms sender k) ≤ 13
unfolding late_actions first_send
late-weight rooms sender duplicate = omega (arith, weight-one (Sent sender (kth_taken 1 sender rooms) Prune), prune-weight sender (kth_taken 1 sender rooms))
late-weight rooms sender repeated = omega (arith, weight-none)
late-weight rooms sender (faster first) = omega (arith, weight-one (Sent first (kth_taken 1 first rooms) Prune), prune-weight first (kth_taken 1 first rooms))

optimise-weight : (rooms : List Room) (sender round : ℕ) (hs : List Hop) (s : State) → weight (optimise_actions rooms sender round hs s) ≤ 37
unfolding optimise_actions first_send
optimise-weight rooms sender round [] s = omega (arith, weight-none)
optimise-weight rooms sender round (h ∷ hs) s =
    let best : Hop = least_from h hs in
    let g : Action = Sent best.peer (kth_taken 1 best.peer rooms) (Graft None best.round) in
    let k : Bool = kth_taken (if eqb sender best.peer then 2 else 1) sender rooms in
    weight-if 37 _ _ (far_closer s.settings.optimization_threshold round best.round)
    (weight-if 37 _ _ (eager_in best.peer s.links)
    (omega (arith, weight-one (Sent sender (kth_taken 1 sender rooms) Prune), prune-weight sender (kth_taken 1 sender rooms)))
    (omega (arith, weight-cons g (Sent sender k Prune ∷ []), weight-one (Sent sender k Prune), prune-weight sender k, asked best)))
    (omega (arith, weight-none))
  where
    asked : (best : Hop) → action_length (Sent best.peer (kth_taken 1 best.peer rooms) (Graft None best.round)) ≤ 24
    asked best = unfold message_length wanted_length in (omega (arith, sent-weight best.peer (kth_taken 1 best.peer rooms) (Graft None best.round), number-few best.round))

pub emit-weight : (p id : ℕ) (content : List ℕ) (d : Delivery) → action_length (Emitted p content d) + 22 ≤ message_length (Gossip id content d)
unfolding action_length message_length
emit-weight p id content d = omega (arith, number-few p)

pub new-weight : (M N : ℕ) (rooms : List Room) (sender id : ℕ) (content : List ℕ) (round : ℕ) (s : State) → length s.links ≤ N → message_length (Gossip id content (Swarm round)) ≤ M →
    weight (new_actions rooms sender id content round s) ≤ N * (M + 13) + M + 39
unfolding new_actions
new-weight M N rooms sender id content round s n h =
    let ps : List ℕ = eager_targets sender (keys (grafted_for id s)) s in
    let x : List Action = push_actions rooms (Gossip id content (Swarm (suc round))) ps s.timers.announce in
    let o : List Action = if is_neighbour sender s.links && not (graft_out sender round (grafted_for id s)) then optimise_actions rooms sender (suc round) (announcers id s) s else [] in
    let e : Action = Emitted sender content (Swarm round) in
    let a : weight x ≤ N * (M + 13) + 12 =
    push-weight rooms (Gossip id content (Swarm (suc round))) ps s.timers.announce N (M + 13) (omega (arith, targets-few sender (keys (grafted_for id s)) s, n))
    (omega (arith, gossip-length id content (suc round), gossip-length id content round, number-suc round, h)) in
    let b : weight o ≤ 37 = weight-if 37 _ _ (is_neighbour sender s.links && not (graft_out sender round (grafted_for id s))) (optimise-weight rooms sender (suc round) (announcers id s) s) (omega (arith, weight-none)) in
    omega (arith, weight-append (x ++ dispatch_action s ++ o) (e ∷ []), weight-append (x ++ dispatch_action s) o, weight-append x (dispatch_action s), weight-one e, a, b, dispatch_action-weight s, emit-weight sender id content (Swarm round), h)
