-- `output_size` bytes hold the actions of any event upon a state whose tables are within its limits, whose queued rounds are 16-bit numbers and whose cached messages were at most M bytes.
-- Assumes nothing.
use Rattle.std.proofs.Common.{ℕ, ◌+◌, ◌*◌, ◌≤◌, ◌≡◌, refl, sym, ap, Bool, true, false, not, List, [], ◌∷◌, ◌++◌, arith, eqb, ltb, length, ltb-false, if◌then◌else◌, max}
use Rattle.std.proofs.lemmas.Nat.{mul-le}
use Rattle.std.proofs.Math.Nat.{le-max_left, le-max_right}
use Rattle.storage.specs.Lists.Base.{all, filter}
use Rattle.storage.proofs.RowsLaws.Rows.{mul-more}
use Rattle.storage.proofs.ListsLaws.ListLaws.{length-filter, count-length}
use Rattle.storage.proofs.ListsLaws.MapLaws.{cases, true≢, all_head, all_tail, all_cons}
use Rattle.time_cache.specs.TimeCache.{get, holds, later_cache}
use Rattle.postcard.specs.Sizes.{gossip_size}
use Rattle.postcard.specs.Message.{Delivery, Swarm, Neighbors, Message, Gossip, Prune, Graft, IHave, Timer, SendGraft, DispatchLazyPush, EvictCache, AnnounceDropped, Event, Received, Broadcast, Fired, Up, Down, Action, Emitted}
use Rattle.protocol.specs.Links.{is_neighbour}
use Rattle.protocol.specs.State.{State, Settings, Limits, with_init, with_received, with_grafted, with_cache}
use Rattle.protocol.specs.Run.{Room}
use Rattle.protocol.specs.Gossips.{late_kind}
use Rattle.protocol.specs.Ticks.{per_message}
use Rattle.decide.specs.Lengths.{message_length}
use Rattle.decide.specs.Settled.{settled, settled_actions}
use Rattle.decide.specs.ActionsAfter.{broadcast_actions, gossip_actions, message_actions, timer_actions, actions_after}
use Rattle.output_size.specs.OutputSize.{output_size}
use Rattle.output_size.proofs.Weights.{weight, weight-append, weight-one, weight-none, weight-if}
use Rattle.output_size.proofs.Steps.{entry_fits, settled-weight, evict-weight, announce-weight, graft-weight, send_graft-weight, ihave-weight, broadcast-weight, late-weight, emit-weight, new-weight}
use Rattle.output_size.proofs.DispatchWeight.{short_note, dispatch-weight}

-- what bounds the actions upon the state
pub record Bounded (s : State) : Type 0 where
  pub some : 1 ≤ s.limits.N
  pub size : 510 ≤ s.settings.max_message_size
  pub links : length s.links ≤ s.limits.N
  pub queue : length s.queue ≤ s.limits.Q
  pub short : all short_note s.queue ≡ true
  pub cached : all (entry_fits s.settings.max_message_size) s.cache.entries ≡ true
  pub entries : length s.cache.entries ≤ s.limits.C
  pub started : s.init ≡ false → s.cache.entries ≡ []

pub all-filter : {A : Type 0} (f g : A → Bool) (xs : List A) → all f xs ≡ true → all f (filter g xs) ≡ true
unfolding filter all
all-filter f g [] h = refl
all-filter f g (x ∷ xs) h = cases (g x) (λ e. rw e (all_cons f x (filter g xs) (all_head f x xs h) (all-filter f g xs (all_tail f x xs h)))) (λ e. rw e (all-filter f g xs (all_tail f x xs h)))

pub bounded-settled : (now : ℕ) (s : State) → Bounded s → Bounded (settled now s)
unfolding settled later_cache
bounded-settled now s b = by s.init
  where
    by : (i : Bool) → Bounded (if i then s else with_init true (with_grafted (later_cache now s.grafted) (with_received (later_cache now s.received) (with_cache (later_cache now s.cache) s))))
    by true = b
    by false = record {
      some = b.some;
      size = b.size;
      links = b.links;
      queue = b.queue;
      short = b.short;
      cached = all-filter (entry_fits s.settings.max_message_size) (λ e. ltb now e.value.expires) s.cache.entries b.cached;
      entries = omega (arith, b.entries, length-filter (λ e. ltb now e.value.expires) s.cache.entries, count-length (λ e. ltb now e.value.expires) s.cache.entries);
      started = λ e. true≢ (sym e);
    }

-- a message read is at most M bytes (question 10)
unfoldable pub event_length : Event → ℕ
event_length (Received p m) = message_length m
event_length (Broadcast content) = 0
event_length (Fired t) = 0
event_length (Up as_quiet p) = 0
event_length (Down p) = 0

-- with the work of a first event: as many as a push and an emit
few-sends : (l : Limits) (M n : ℕ) → n ≤ l.N * (M + 13) + M + 65 → n + 12 ≤ output_size l M
unfolding output_size
few-sends l M n h = omega (arith, h, le-max_left ((l.N + 1) * (M + 13)) (50 * l.Q), le-max_left (max ((l.N + 1) * (M + 13)) (50 * l.Q)) (33 * l.C), mul-more (M + 13) l.N)

-- or as a dispatch
few-queued : (l : Limits) (M n : ℕ) → n ≤ 50 * l.Q + 52 → n + 12 ≤ output_size l M
unfolding output_size
few-queued l M n h = omega (arith, h, le-max_right ((l.N + 1) * (M + 13)) (50 * l.Q), le-max_left (max ((l.N + 1) * (M + 13)) (50 * l.Q)) (33 * l.C))

-- or as an eviction tells
few-cached : (l : Limits) (M n : ℕ) → n ≤ 33 * l.C + 52 → n + 12 ≤ output_size l M
unfolding output_size
few-cached l M n h = omega (arith, h, le-max_right (max ((l.N + 1) * (M + 13)) (50 * l.Q)) (33 * l.C))

module _ (hash : List ℕ → ℕ) (rooms : List Room) (s : State) (b : Bounded s) where
  one-send : s.settings.max_message_size + 13 ≤ s.limits.N * (s.settings.max_message_size + 13)
  one-send = omega (arith, mul-le 1 (s.settings.max_message_size + 13) s.limits.N (s.settings.max_message_size + 13) b.some (omega arith))

  gossip-few : (sender id : ℕ) (content : List ℕ) (d : Delivery) → message_length (Gossip id content d) ≤ s.settings.max_message_size → weight (gossip_actions hash rooms sender id content d s) ≤ s.limits.N * (s.settings.max_message_size + 13) + s.settings.max_message_size + 65
  unfolding gossip_actions
  gossip-few sender id content (Swarm round) h =
      weight-if _ _ _ (not (eqb (hash content) id)) (omega (arith, weight-none))
      (weight-if _ _ _ (holds id s.received)
      (omega (arith, b.size, late-weight rooms sender (late_kind sender (Swarm round) s.links (get id s.grafted))))
      (omega (arith, new-weight s.settings.max_message_size s.limits.N rooms sender id content round s b.links h)))
  gossip-few sender id content Neighbors h =
      weight-if _ _ _ (not (eqb (hash content) id)) (omega (arith, weight-none))
      (weight-if _ _ _ (holds id s.received)
      (omega (arith, b.size, late-weight rooms sender (late_kind sender Neighbors s.links (get id s.grafted))))
      (omega (arith, weight-one (Emitted sender content Neighbors), emit-weight sender id content Neighbors, h)))

  message-few : (sender : ℕ) (m : Message) → message_length m ≤ s.settings.max_message_size → weight (message_actions hash rooms sender m s) ≤ s.limits.N * (s.settings.max_message_size + 13) + s.settings.max_message_size + 65
  unfolding message_actions
  message-few sender (Gossip id content d) h = gossip-few sender id content d h
  message-few sender Prune h = omega (arith, weight-none)
  message-few sender (Graft wanted round) h =
      weight-if _ _ _ (is_neighbour sender s.links) (omega (arith, graft-weight s.settings.max_message_size rooms sender wanted s b.cached)) (omega (arith, weight-none))
  message-few sender (IHave hs) h =
      weight-if _ _ _ (is_neighbour sender s.links) (omega (arith, ihave-weight s.settings.max_message_size hs s h, one-send)) (omega (arith, weight-none))

  broadcast-few : (M : ℕ) → M ≡ s.settings.max_message_size → (content : List ℕ) →
      weight (if ltb M (gossip_size (length content)) then [] else broadcast_actions rooms (hash content) content s) ≤ s.limits.N * (s.settings.max_message_size + 13) + s.settings.max_message_size + 65
  broadcast-few M e content =
      cases (ltb M (gossip_size (length content))) (λ t. rw t (omega (arith, weight-none)))
      (λ t. rw t (omega (arith, b.size, broadcast-weight s.settings.max_message_size s.limits.N rooms (hash content) content s b.links (omega (arith, e, ltb-false M (gossip_size (length content)) t)))))

  timer-few : (now : ℕ) (t : Timer) → weight (timer_actions hash rooms now t s) + 12 ≤ output_size s.limits s.settings.max_message_size
  unfolding timer_actions per_message
  timer-few now (SendGraft id) = few-sends s.limits s.settings.max_message_size _ (omega (arith, b.size, send_graft-weight rooms id s))
  timer-few now DispatchLazyPush = few-queued s.limits s.settings.max_message_size _ (omega (arith, b.queue, dispatch-weight rooms s (unfold per_message in (omega (arith, b.size))) b.short))
  timer-few now EvictCache = few-cached s.limits s.settings.max_message_size _ (omega (arith, b.entries, evict-weight now s))
  timer-few now AnnounceDropped = few-sends s.limits s.settings.max_message_size _ (omega (arith, announce-weight s))

settled-limits : (now : ℕ) (s : State) → (settled now s).limits ≡ s.limits
unfolding settled
settled-limits now s = cases s.init (λ e. rw e refl) (λ e. rw e refl)

settled-settings : (now : ℕ) (s : State) → (settled now s).settings ≡ s.settings
unfolding settled
settled-settings now s = cases s.init (λ e. rw e refl) (λ e. rw e refl)

module _ (hash : List ℕ → ℕ) (rooms : List Room) (now : ℕ) (s : State) (b : Bounded s) where
  -- behind a first event's work
  behind : (xs : List Action) → weight xs + 12 ≤ output_size (settled now s).limits (settled now s).settings.max_message_size → weight (settled_actions now s ++ xs) ≤ output_size s.limits s.settings.max_message_size
  behind xs h = omega (arith, weight-append (settled_actions now s) xs, settled-weight now s b.started, (rw (settled-limits now s, settled-settings now s) at h))

  pub actions-weight : (e : Event) → event_length e ≤ s.settings.max_message_size → weight (actions_after hash rooms now e s) ≤ output_size s.limits s.settings.max_message_size
  unfolding actions_after event_length
  actions-weight (Received p m) h =
      let c = bounded-settled now s b in
      behind (message_actions hash rooms p m (settled now s))
      (few-sends (settled now s).limits (settled now s).settings.max_message_size _ (message-few hash rooms (settled now s) c p m (omega (arith, h, ap (λ (x : Settings). x.max_message_size) (settled-settings now s)))))
  actions-weight (Broadcast content) h =
      let c = bounded-settled now s b in
      behind _ (few-sends (settled now s).limits (settled now s).settings.max_message_size _ (broadcast-few hash rooms (settled now s) c s.settings.max_message_size (sym (ap (λ (x : Settings). x.max_message_size) (settled-settings now s))) content))
  actions-weight (Fired t) h = behind (timer_actions hash rooms now t (settled now s)) (timer-few hash rooms (settled now s) (bounded-settled now s b) now t)
  actions-weight (Up as_quiet p) h = omega (arith, weight-none)
  actions-weight (Down p) h = omega (arith, weight-none)
