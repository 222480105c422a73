-- Each event's step: once the tests are answered, the definitions of the whole call are those of the step.
-- Assumes nothing.
use Rattle.machine.proofs.Words.{ℕ, ◌*◌, ◌≤◌, ◌<◌, ◌≡◌, refl, sym, ap, ◌∙◌, subst, Bool, true, false, not, ◌&&◌, List, [], ◌∷◌, ◌++◌, arith, leb-true, leb-false, lt-ltb, le-ltb, eqb, ltb, leb, length, get_or, length-append, Option, Some, all, and_right, cases, identifier, Delivery, Swarm, Neighbors, Ihave, Gossip, Prune, Graft, IHave, Received, Broadcast, Fired, SendGraft, DispatchLazyPush, EvictCache, AnnounceDropped, ihave_bytes, message_bytes, delivery_value, wanted_value, ihaves_value, Links, is_neighbour, State, Counts, Room, peer_at, settled_actions}
use Rattle.storage.specs.Lists.Base.{ascending, concat_map}
use Rattle.storage.specs.Lists.Map.{keys}
use Rattle.storage.proofs.ListsLaws.Branches.{if-both}
use Rattle.storage.specs.Rows.Ident.{id_of}
use Rattle.std.specs.Borrow.{Bor}
use Rattle.storage.specs.declared.rows.id.Id.{Id}
use Rattle.time_cache.specs.TimeCache.{holds}
use Rattle.postcard.specs.Message.{Message}
use Rattle.postcard.specs.Sizes.{gossip_size}
use Rattle.postcard.specs.declared.message.Delivery as declared
use Rattle.postcard.specs.declared.message.Delivery.TheVariants as delivery
use Rattle.postcard.specs.declared.units.Round.{Round}
use Rattle.postcard.proofs.Lengths.{length-content, length-gossip, length-ihave, length-ihaves}
use Rattle.wire.specs.declared.reader.ihaves.Ihaves.{Ihaves}
use Rattle.wire.proofs.ReaderLaws.AnnouncedLaws.{announced_count}
use Rattle.protocol.specs.State.{size_in_range}
use Rattle.protocol.specs.Answer.{last_round}
use Rattle.protocol.specs.Ticks.{evict}
use Rattle.protocol.specs.Consistent.{CoreOf, Ranged}
use Rattle.block.specs.Found.{LinkAt}
use Rattle.steps.proofs.NeighborLaws.{found-neighbour}
use Rattle.decide.specs.Settled.{settled, received_before, too_far_before}
use Rattle.decide.specs.ActionsAfter.{gossip_actions, message_actions, timer_actions, actions_after}
use Rattle.decide.specs.StateAfter.{first_state, timer_state, gossip_state, message_state, state_after}
use Rattle.decide.proofs.SettledLaws.{evicted, settled-links, settled-received}
use Rattle.postcard.specs.Number.{groups, number_bytes, number_length}
use Rattle.announcements.specs.Ihaves.Entries.{is_received}
use Rattle.announcements.specs.declared.on_ihave.IhaveDecision.{IhaveDecision}
use Rattle.announcements.specs.OnIhave.{IhaveDecided}
use Rattle.announcements.proofs.IhavesLaws.DecidedLaws.{decided-few, decided-state, decided-actions}
use Rattle.announcements.proofs.IhavesLaws.ReceivedLaws.{received-actions, received-state}
use Rattle.decide.specs.Counted.{message_counts, counts_after_call}
use Rattle.steps.proofs.AtRestLaws.{settled-as}
use Rattle.payloads.specs.OnLateGraftReply.{copy_kind, late_value, LateHeld}
use Rattle.payloads.specs.declared.on_late_graft_reply.Late.{Late}
use Rattle.payloads.specs.declared.on_gossip.Decision.{Decision}
use Rattle.payloads.specs.declared.eager_push.Push.{Push}
use Rattle.announcements.specs.declared.on_announce_dropped_timer.StillCached.{StillCached}
use Rattle.machine.specs.Kinds.Meaning.{step_actions, step_state, step_far, step_counts, counted_for, ContentHeld, ListHeld, StepHeld, SenderIs, Means}
use Rattle.machine.specs.declared.kinds.Step.{Step}
use Rattle.machine.specs.declared.kinds.Step.TheVariants as step

-- both say what a first event leaves
pub first-settled : (now : ℕ) (s : State) → CoreOf s → first_state now s ≡ settled now s
unfolding first_state settled evict
first-settled now s c =
    let e = evicted now s c in
    if-both s.init refl (rw (e.received, e.grafted, e.cache) refl)

-- a new message, and a copy of one received before
abbrev pub news : ℕ → Id → Bor (List ℕ) → Round → Decision → Step
news sender i content round d = step.NewSwarm (record { sender = sender; id = i; content = content; round = round; decision = d })

abbrev pub copied : ℕ → Id → Late → Step
copied sender i k = step.Late (record { sender = sender; id = i; kind = k })

-- what a message does, of the state that a first event leaves
record Does (now : ℕ) (t : State) (r : Step) (sender : ℕ) (m : Message) : Type 0 where
  actions : (rooms : List Room) → message_actions identifier rooms sender m t ≡ step_actions rooms now r t
  state : (rooms : List Room) → message_state identifier rooms now sender m t ≡ step_state rooms now r t
  counts : (c : Counts) → message_counts identifier m t c ≡ step_counts r c

means-message : (now : ℕ) (s : State) (r : Step) (sender : ℕ) (m : Message) → CoreOf s →
    too_far_before identifier now (Received sender m) s ≡ step_far r → Does now (settled now s) r sender m → StepHeld s r → SenderIs sender r → Means now s r (Received sender m)
unfolding actions_after state_after counts_after_call counted_for
means-message now s r sender m c f d h q = record {
  far = f;
  actions = λ rooms. ap (λ (l : List _). settled_actions now s ++ l) (d.actions rooms);
  state = λ rooms. ap (message_state identifier rooms now sender m) (first-settled now s c) ∙ d.state rooms;
  counts = λ n. d.counts _;
  held = h;
  sender = q;
}

-- a Gossip that is not valid
does-invalid : (now : ℕ) (t : State) (sender id : ℕ) (content : List ℕ) (d : Delivery) → eqb (identifier content) id ≡ false →
    Does now t step.Nothing sender (Gossip id content d)
unfolding message_actions gossip_actions message_state gossip_state message_counts step_actions step_state step_counts
does-invalid now t sender id content (Swarm round) e = record { actions = λ rooms. rw e refl; state = λ rooms. rw e refl; counts = λ c. rw e refl }
does-invalid now t sender id content Neighbors e = record { actions = λ rooms. rw e refl; state = λ rooms. rw e refl; counts = λ c. refl }

far-invalid : (now : ℕ) (s : State) (sender id : ℕ) (content : List ℕ) (d : Delivery) → eqb (identifier content) id ≡ false → too_far_before identifier now (Received sender (Gossip id content d)) s ≡ step_far step.Nothing
unfolding too_far_before step_far
far-invalid now s sender id content d e = rw e refl

pub means-invalid : (now : ℕ) (s : State) (sender id : ℕ) (content : List ℕ) (d : Delivery) → CoreOf s → eqb (identifier content) id ≡ false →
    Means now s step.Nothing (Received sender (Gossip id content d))
means-invalid now s sender id content d c e =
    means-message now s step.Nothing sender (Gossip id content d) c (far-invalid now s sender id content d e) (does-invalid now (settled now s) sender id content d e) tt tt

and-off : (b : Bool) → (b && false) ≡ false
and-off true = refl
and-off false = refl

and-on : (b : Bool) → (b && true) ≡ b
and-on true = refl
and-on false = refl

-- question 12 of a valid Gossip, once it is known whether it is received
far-valid : (now : ℕ) (s : State) (sender id : ℕ) (content : List ℕ) (d : Delivery) (b : Bool) → CoreOf s → eqb (identifier content) id ≡ true → holds id (settled now s).received ≡ b →
    too_far_before identifier now (Received sender (Gossip id content d)) s ≡ (last_round d && not b)
unfolding too_far_before received_before
far-valid now s sender id content d b c e q =
    let r : received_before now s id ≡ b = sym (settled-received now id s c) ∙ q in
    ap (λ (x : Bool). x && last_round d && not (received_before now s id)) e ∙ ap (λ (x : Bool). last_round d && not x) r

-- a valid one, received before
module _ (now : ℕ) (sender : ℕ) (i : Id) (content : List ℕ) (d : declared.Delivery) (k : Late) (valid : eqb (identifier content) (id_of i) ≡ true) where
  does-late : (t : State) → holds (id_of i) t.received ≡ true → late_value t k ≡ copy_kind sender i d t → Does now t (copied sender i k) sender (Gossip (id_of i) content (delivery_value d))
  unfolding message_actions gossip_actions message_state gossip_state message_counts step_actions step_state step_counts
  does-late t q e = by d e
    where
      by : (v : declared.Delivery) → late_value t k ≡ copy_kind sender i v t → Does now t (copied sender i k) sender (Gossip (id_of i) content (delivery_value v))
      by (delivery.Swarm round) e = record { actions = λ rooms. rw (valid, q, ← e) refl; state = λ rooms. rw (valid, q, ← e) refl; counts = λ c. rw (valid, q) refl }
      by delivery.Neighbors e = record { actions = λ rooms. rw (valid, q, ← e) refl; state = λ rooms. rw (valid, q, ← e) refl; counts = λ c. refl }

  pub means-late : (s : State) → CoreOf s → holds (id_of i) (settled now s).received ≡ true → late_value s k ≡ copy_kind sender i d (settled now s) → LateHeld s k
      → Means now s (copied sender i k) (Received sender (Gossip (id_of i) content (delivery_value d)))
  unfolding step_far
  means-late s c q e h =
      means-message now s (copied sender i k) sender (Gossip (id_of i) content (delivery_value d)) c
      (far-valid now s sender (id_of i) content (delivery_value d) true c valid q ∙ and-off (last_round (delivery_value d)))
      (does-late (settled now s) q (settled-as now s (λ (u : State). late_value u k) refl ∙ e))
      h
      refl

-- a valid one, new
module _ (now : ℕ) (s : State) (sender : ℕ) (i : Id) (content : Bor (List ℕ)) (core : CoreOf s) (valid : eqb (identifier content.now) (id_of i) ≡ true)
    (new : holds (id_of i) (settled now s).received ≡ false) (held : ContentHeld content.now) where
  does-new-swarm : (decision : Decision) (round : Round) → Does now (settled now s) (news sender i content round decision) sender (Gossip (id_of i) content.now (Swarm round.0))
  unfolding message_actions gossip_actions message_state gossip_state message_counts step_actions step_state step_counts
  does-new-swarm decision round = record { actions = λ rooms. rw (valid, new) refl; state = λ rooms. rw (valid, new) refl; counts = λ c. rw (valid, new) refl }

  pub means-new-swarm : (decision : Decision) (round : Round) → Means now s (news sender i content round decision) (Received sender (Gossip (id_of i) content.now (Swarm round.0)))
  unfolding step_far last_round
  means-new-swarm decision round =
      means-message now s (news sender i content round decision) sender (Gossip (id_of i) content.now (Swarm round.0)) core
      (far-valid now s sender (id_of i) content.now (Swarm round.0) false core valid new ∙ and-on (eqb round.0 65535))
      (does-new-swarm decision round)
      held
      refl

  does-new-neighbors : Does now (settled now s) (step.NewNeighbors sender content) sender (Gossip (id_of i) content.now Neighbors)
  unfolding message_actions gossip_actions message_state gossip_state message_counts step_actions step_state step_counts
  does-new-neighbors = record { actions = λ rooms. rw (valid, new) refl; state = λ rooms. rw (valid, new) refl; counts = λ c. refl }

  pub means-new-neighbors : Means now s (step.NewNeighbors sender content) (Received sender (Gossip (id_of i) content.now Neighbors))
  unfolding step_far last_round
  means-new-neighbors =
      means-message now s (step.NewNeighbors sender content) sender (Gossip (id_of i) content.now Neighbors) core
      (far-valid now s sender (id_of i) content.now Neighbors false core valid new)
      does-new-neighbors
      held
      refl

  pub means-new : (decision : Decision) (d : declared.Delivery) (round : Round) → d ≡ delivery.Swarm round → Means now s (news sender i content round decision) (Received sender (Gossip (id_of i) content.now (delivery_value d)))
  means-new decision d round e =
      subst (λ (v : declared.Delivery). Means now s (news sender i content round decision) (Received sender (Gossip (id_of i) content.now (delivery_value v)))) (sym e) (means-new-swarm decision round)

  pub means-near : (d : declared.Delivery) → d ≡ delivery.Neighbors → Means now s (step.NewNeighbors sender content) (Received sender (Gossip (id_of i) content.now (delivery_value d)))
  means-near d e =
      subst (λ (v : declared.Delivery). Means now s (step.NewNeighbors sender content) (Received sender (Gossip (id_of i) content.now (delivery_value v)))) (sym e) means-new-neighbors

-- a stranger's Prune, Graft or IHave
module _ (now : ℕ) (s : State) (sender : ℕ) (core : CoreOf s) (away : is_neighbour sender s.links ≡ false) where
  away-settled : is_neighbour sender (settled now s).links ≡ false
  away-settled = ap (is_neighbour sender) (settled-links now s) ∙ away

  does-stranger-prune : (t : State) → is_neighbour sender t.links ≡ false → Does now t step.Nothing sender Prune
  unfolding message_actions message_state message_counts step_actions step_state step_counts
  does-stranger-prune t a = record { actions = λ rooms. refl; state = λ rooms. rw a refl; counts = λ c. refl }

  does-stranger-graft : (wanted : _) (round : ℕ) (t : State) → is_neighbour sender t.links ≡ false → Does now t step.Nothing sender (Graft wanted round)
  unfolding message_actions message_state message_counts step_actions step_state step_counts
  does-stranger-graft wanted round t a = record { actions = λ rooms. rw a refl; state = λ rooms. rw a refl; counts = λ c. refl }

  does-stranger-ihave : (hs : List Ihave) (t : State) → is_neighbour sender t.links ≡ false → Does now t step.Nothing sender (IHave hs)
  unfolding message_actions message_state message_counts step_actions step_state step_counts
  does-stranger-ihave hs t a = record { actions = λ rooms. rw a refl; state = λ rooms. rw a refl; counts = λ c. refl }

  pub means-stranger-prune : Means now s step.Nothing (Received sender Prune)
  unfolding too_far_before step_far
  means-stranger-prune = means-message now s step.Nothing sender Prune core refl (does-stranger-prune (settled now s) away-settled) tt tt

  pub means-stranger-graft : (wanted : _) (round : ℕ) → Means now s step.Nothing (Received sender (Graft wanted round))
  unfolding too_far_before step_far
  means-stranger-graft wanted round = means-message now s step.Nothing sender (Graft wanted round) core refl (does-stranger-graft wanted round (settled now s) away-settled) tt tt

  pub means-stranger-ihave : (hs : List Ihave) → Means now s step.Nothing (Received sender (IHave hs))
  unfolding too_far_before step_far
  means-stranger-ihave hs = means-message now s step.Nothing sender (IHave hs) core refl (does-stranger-ihave hs (settled now s) away-settled) tt tt

-- a neighbour's
module _ (now : ℕ) (s : State) (sender link : ℕ) (core : CoreOf s) (there : LinkAt s sender link) where
  pub there-settled : is_neighbour sender (settled now s).links ≡ true
  there-settled = ap (is_neighbour sender) (settled-links now s) ∙ sym (found-neighbour s sender (Some link) core.links_up there)

  peer-settled : peer_at (settled now s) link ≡ sender
  peer-settled = ap (λ (m : Links). get_or (keys m) link 0) (settled-links now s) ∙ there.peer

  does-prune : (t : State) → is_neighbour sender t.links ≡ true → peer_at t link ≡ sender → Does now t (step.Prune link) sender Prune
  unfolding message_actions message_state message_counts step_actions step_state step_counts
  does-prune t a p = record { actions = λ rooms. refl; state = λ rooms. rw (a, p) refl; counts = λ c. refl }

  pub means-prune : Means now s (step.Prune link) (Received sender Prune)
  unfolding too_far_before step_far
  means-prune = means-message now s (step.Prune link) sender Prune core refl (does-prune (settled now s) there-settled peer-settled) there.below tt

  does-graft : (w : Option Id) (round : ℕ) (t : State) → is_neighbour sender t.links ≡ true → peer_at t link ≡ sender → Does now t (step.Graft link w) sender (Graft (wanted_value w) round)
  unfolding message_actions message_state message_counts step_actions step_state step_counts
  does-graft w round t a p = record { actions = λ rooms. rw (a, p) refl; state = λ rooms. rw (a, p) refl; counts = λ c. refl }

  pub means-graft : (w : Option Id) (round : ℕ) → Means now s (step.Graft link w) (Received sender (Graft (wanted_value w) round))
  unfolding too_far_before step_far
  means-graft w round = means-message now s (step.Graft link w) sender (Graft (wanted_value w) round) core refl (does-graft w round (settled now s) there-settled peer-settled) there.below tt

  does-ihave : (hs : List Ihave) (d : IhaveDecision) (t : State) → ascending (keys t.missing) ≡ true → ascending t.timers.graft ≡ true → IhaveDecided t hs d.entries.now d.order.now → is_neighbour sender t.links ≡ true → peer_at t link ≡ sender →
      Does now t (step.IHave link d) sender (IHave hs)
  unfolding message_actions message_state message_counts step_actions step_state step_counts
  does-ihave hs d t u v k a p = record {
    actions = λ rooms. rw a (decided-actions t hs d.entries.now d.order.now k);
    state = λ rooms. rw (a, p) (decided-state t hs d.entries.now d.order.now k sender u v);
    counts = λ c. refl;
  }

  pub means-ihave : (ihaves : Ihaves) (d : IhaveDecision) → ListHeld s link ihaves → IhaveDecided (settled now s) (ihaves_value ihaves) d.entries.now d.order.now → Means now s (step.IHave link d) (Received sender (IHave (ihaves_value ihaves)))
  unfolding too_far_before step_far
  means-ihave ihaves d h k =
      means-message now s (step.IHave link d) sender (IHave (ihaves_value ihaves)) core refl
      (does-ihave (ihaves_value ihaves) d (settled now s)
      (settled-as now s (λ (u : State). ascending (keys u.missing)) refl ∙ core.missing_up)
      (settled-as now s (λ (u : State). ascending u.timers.graft) refl ∙ core.timers_up)
      k there-settled peer-settled)
      (record {
        there = h.there;
        few = omega (arith, decided-few (settled now s) (ihaves_value ihaves) d.entries.now d.order.now k, announced_count ihaves.count ihaves.bytes.now ihaves.there, h.few);
      }) tt

  does-known-ihave : (hs : List Ihave) (t : State) → is_neighbour sender t.links ≡ true → all (is_received t) hs ≡ true → Does now t step.Nothing sender (IHave hs)
  unfolding message_actions message_state message_counts step_actions step_state step_counts
  does-known-ihave hs t a k = record { actions = λ rooms. rw a (received-actions t hs k); state = λ rooms. rw a (received-state sender t hs k); counts = λ c. refl }

  pub means-known-ihave : (hs : List Ihave) → all (is_received (settled now s)) hs ≡ true → Means now s step.Nothing (Received sender (IHave hs))
  unfolding too_far_before step_far
  means-known-ihave hs k = means-message now s step.Nothing sender (IHave hs) core refl (does-known-ihave hs (settled now s) there-settled k) tt tt

-- a broadcast of size over M
pub means-oversize : (now : ℕ) (s : State) (content : List ℕ) → CoreOf s → ltb s.settings.max_message_size (gossip_size (length content)) ≡ true →
    Means now s step.Nothing (Broadcast content)
unfolding too_far_before actions_after state_after counts_after_call counted_for step_far step_actions step_state step_counts
means-oversize now s content c e = record {
  far = refl;
  actions = λ rooms. rw e refl;
  state = λ rooms. rw e (first-settled now s c);
  counts = λ n. refl;
  held = tt;
  sender = tt;
}

-- one of size at most M
module _ (now : ℕ) (s : State) (i : Id) (content : Bor (List ℕ)) (push : Push) (core : CoreOf s) (of : id_of i ≡ identifier content.now) (held : ContentHeld content.now) where
  pub means-broadcast : ltb s.settings.max_message_size (gossip_size (length content.now)) ≡ false → Means now s (step.Broadcast (record { id = i; content = content; push = push })) (Broadcast content.now)
  unfolding too_far_before actions_after state_after counts_after_call counted_for step_far step_actions step_state step_counts
  means-broadcast e = record {
    far = refl;
    actions = λ rooms. rw (e, ← of) refl;
    state = λ rooms. rw (e, first-settled now s core, ← of) refl;
    counts = λ n. refl;
    held = held;
    sender = tt;
  }

-- timers
module _ (now : ℕ) (s : State) (core : CoreOf s) where
  pub means-timer-graft : (i : Id) → Means now s (step.SendGraft i) (Fired (SendGraft (id_of i)))
  unfolding too_far_before actions_after state_after counts_after_call timer_actions timer_state counted_for step_far step_actions step_state step_counts
  means-timer-graft i = record { far = refl; actions = λ rooms. refl; state = λ rooms. rw (first-settled now s core) refl; counts = λ n. refl; held = tt; sender = tt }

  pub means-timer-dispatch : (rows : Bor (List ℕ)) → Means now s (step.DispatchLazyPush rows) (Fired DispatchLazyPush)
  unfolding too_far_before actions_after state_after counts_after_call timer_actions timer_state counted_for step_far step_actions step_state step_counts
  means-timer-dispatch rows = record { far = refl; actions = λ rooms. refl; state = λ rooms. rw (first-settled now s core) refl; counts = λ n. refl; held = tt; sender = tt }

  pub means-timer-evict : Means now s step.EvictCache (Fired EvictCache)
  unfolding too_far_before actions_after state_after counts_after_call timer_actions timer_state counted_for step_far step_actions step_state step_counts
  means-timer-evict = record { far = refl; actions = λ rooms. refl; state = λ rooms. rw (first-settled now s core) refl; counts = λ n. refl; held = tt; sender = tt }

  pub means-timer-announce : (cached : StillCached) → Means now s (step.AnnounceDropped cached) (Fired AnnounceDropped)
  unfolding too_far_before actions_after state_after counts_after_call timer_actions timer_state counted_for step_far step_actions step_state step_counts
  means-timer-announce cached = record { far = refl; actions = λ rooms. refl; state = λ rooms. rw (first-settled now s core) refl; counts = λ n. refl; held = tt; sender = tt }

-- M is at most 4,094
max-few : (s : State) → Ranged s → s.settings.max_message_size ≤ 4094
unfolding size_in_range
max-few s r = leb-true s.settings.max_message_size 4094 (and_right (leb 510 s.settings.max_message_size) (leb s.settings.max_message_size 4094) r.size)

-- a message of at most M bytes has a content of at most M bytes
pub gossip-held : (s : State) (id : ℕ) (content : List ℕ) (d : Delivery) → Ranged s → length (message_bytes (Gossip id content d)) ≤ s.settings.max_message_size → ContentHeld content
gossip-held s id content d r q = record { short = omega (arith, max-few s r, length-gossip id content d, length-content content) }

-- a number has a byte at least
number-some : (n : ℕ) → 1 ≤ number_length n
unfolding number_length number_bytes groups
number-some n = cases (ltb n 128) (λ p. rw p (omega arith)) (λ p. rw p (omega arith))

-- 33 bytes for each announcement, or more
ihaves-long : (hs : List Ihave) → 33 * length hs ≤ length (concat_map ihave_bytes hs)
unfolding concat_map
ihaves-long [] = omega arith
ihaves-long (h ∷ hs) = omega (arith, ihaves-long hs, length-append (ihave_bytes h) (concat_map ihave_bytes hs), length-ihave h, number-some h.round)

pub ihaves-held : (s : State) (link : ℕ) (ihaves : Ihaves) → Ranged s → link < length s.links → length (message_bytes (IHave (ihaves_value ihaves))) ≤ s.settings.max_message_size → ListHeld s link ihaves
ihaves-held s link ihaves r t q = record {
  there = t;
  few = omega (arith, max-few s r, announced_count ihaves.count ihaves.bytes.now ihaves.there, length-ihaves (ihaves_value ihaves), ihaves-long (ihaves_value ihaves));
}

size-long : (n : ℕ) → n ≤ gossip_size n
unfolding gossip_size
size-long n = omega arith

-- a broadcast of size at most M
pub broadcast-held : (s : State) (content : List ℕ) → Ranged s → leb (gossip_size (length content)) s.settings.max_message_size ≡ true → ContentHeld content
broadcast-held s content r e =
    record { short = omega (arith, max-few s r, size-long (length content), leb-true (gossip_size (length content)) s.settings.max_message_size e) }

over-not : (m n : ℕ) (b : Bool) → leb n m ≡ b → ltb m n ≡ not b
over-not m n true e = le-ltb m n (leb-true n m e)
over-not m n false e = lt-ltb m n (leb-false n m e)

-- the same test the other way round
pub over-of : (s : State) (len : ℕ) (b : Bool) → leb (gossip_size len) s.settings.max_message_size ≡ b → ltb s.settings.max_message_size (gossip_size len) ≡ not b
over-of s len b e = over-not s.settings.max_message_size (gossip_size len) b e

-- the test of the code
pub valid-of : (b : Bool) (n m k : ℕ) → b ≡ eqb n k → n ≡ m → eqb m k ≡ b
valid-of b n m k e q = ap (λ (x : ℕ). eqb x k) (sym q) ∙ sym e
