-- A whole call: its actions are a function of the state before it (question 14).
use Rattle.std.proofs.Common.{ℕ, ◌≡◌, refl, sym, ◌∙◌, Bool, true, false, not, List, [], ◌++◌, append-nil, append_assoc, ltb, eqb, length, if◌then◌else◌}
use Rattle.time_cache.specs.TimeCache.{holds}
use Rattle.protocol.specs.Links.{is_neighbour}
use Rattle.postcard.specs.Message.{Delivery, Swarm, Neighbors, Message, Gossip, Prune, Graft, IHave, Timer, SendGraft, DispatchLazyPush, EvictCache, AnnounceDropped, Event, Received, Broadcast, Fired, Up, Down, Action}
use Rattle.protocol.specs.State.{State, Counts}
use Rattle.protocol.specs.Run.{Run, Room, begin, with_counts}
use Rattle.protocol.specs.Gossips.{on_late_graft_reply, on_gossip, gossip_size, broadcast}
use Rattle.protocol.specs.Handle.{first_event, count_message, if_neighbour, on_timer, on_message, handle_message, handle}
use Rattle.protocol.specs.Whole.{whole}
use Rattle.protocol.specs.Consistent.{Consistent}
use Rattle.decide.specs.Settled.{settled, settled_actions}
use Rattle.decide.specs.ActionsAfter.{broadcast_actions, gossip_actions, message_actions, timer_actions, actions_after}
use Rattle.protocol.proofs.Consistent.{whole-consistent}
use Rattle.protocol.proofs.WholeKept.{kept-first_event}
use Rattle.storage.proofs.ListsLaws.Branches.{if-on, if-same}
use Rattle.decide.proofs.SettledLaws.{first-state, first-actions, first-rooms}
use Rattle.decide.proofs.UpDownEvict.{up-actions, down-actions, evict-actions}
use Rattle.decide.proofs.AnnounceDropped.{announce-actions}
use Rattle.decide.proofs.GraftSendGraft.{prune-actions, graft-actions, send_graft-actions}
use Rattle.decide.proofs.IHave.{ihave-actions}
use Rattle.decide.proofs.Broadcast.{broadcast-actions}
use Rattle.decide.proofs.Gossip.{late-actions, on_new-actions, on_near-actions}
use Rattle.decide.proofs.Dispatch.{dispatched-actions}

-- more actions, in a branch
by-more : (r : Run) (b : Bool) (x y : Run) (u v : List Action) → (b ≡ true → x.actions ≡ r.actions ++ u) → (b ≡ false → y.actions ≡ r.actions ++ v) → (if b then x else y).actions ≡ r.actions ++ (if b then u else v)
by-more r true x y u v p q = p refl
by-more r false x y u v p q = q refl

none_more : (r : Run) → r.actions ≡ r.actions ++ []
none_more r = sym (append-nil r.actions)

pub timer-actions : (hash : List ℕ → ℕ) (now : ℕ) (t : Timer) (r : Run) → Consistent r.state → (on_timer now t r).actions ≡ r.actions ++ timer_actions hash r.rooms now t r.state
unfolding on_timer timer_actions
timer-actions hash now (SendGraft id) r x = send_graft-actions now id r
timer-actions hash now DispatchLazyPush r x = dispatched-actions r x
timer-actions hash now EvictCache r x = evict-actions now r
timer-actions hash now AnnounceDropped r x = announce-actions r

module _ (hash : List ℕ → ℕ) where
  gossip-actions : (now sender id : ℕ) (content : List ℕ) (d : Delivery) (r : Run) → Consistent r.state → (on_gossip hash now sender id content d r).actions ≡ r.actions ++ gossip_actions hash r.rooms sender id content d r.state
  unfolding on_gossip gossip_actions on_late_graft_reply
  gossip-actions now sender id content (Swarm round) r x =
      by-more r (not (eqb (hash content) id)) _ _ _ _ (λ t. none_more r)
      (λ t. by-more r (holds id r.state.received) _ _ _ _ (λ h. late-actions sender id _ r) (λ h. on_new-actions now sender id content round r x.core))
  gossip-actions now sender id content Neighbors r x =
      by-more r (not (eqb (hash content) id)) _ _ _ _ (λ t. none_more r)
      (λ t. by-more r (holds id r.state.received) _ _ _ _ (λ h. late-actions sender id _ r) (λ h. on_near-actions now sender id content r))

  pub message-actions : (now sender : ℕ) (m : Message) (r : Run) → Consistent r.state → (on_message hash now sender m r).actions ≡ r.actions ++ message_actions hash r.rooms sender m r.state
  unfolding on_message message_actions if_neighbour
  message-actions now sender (Gossip id content d) r x = gossip-actions now sender id content d r x
  message-actions now sender Prune r x =
      if-on (λ (y : Run). y.actions) (is_neighbour sender r.state.links) _ _ ∙ if-same (is_neighbour sender r.state.links) (prune-actions sender r) refl ∙ none_more r
  message-actions now sender (Graft wanted round) r x =
      by-more r (is_neighbour sender r.state.links) _ _ _ _ (λ n. graft-actions sender wanted r n) (λ n. none_more r)
  message-actions now sender (IHave hs) r x =
      by-more r (is_neighbour sender r.state.links) _ _ _ _ (λ n. ihave-actions sender hs r x.core.missing_up x.core.timers_up) (λ n. none_more r)

  pub broadcasted-actions : (now : ℕ) (content : List ℕ) (r : Run) → Consistent r.state → (broadcast hash now content r).actions ≡
      r.actions ++ (if ltb r.state.settings.max_message_size (gossip_size (length content)) then [] else broadcast_actions r.rooms (hash content) content r.state)
  unfolding broadcast
  broadcasted-actions now content r x =
      by-more r (ltb r.state.settings.max_message_size (gossip_size (length content))) _ _ _ _ (λ t. none_more r) (λ t. broadcast-actions hash now content r x.core)

  -- the actions of any event
  pub handle-actions : (now : ℕ) (e : Event) (r : Run) → Consistent r.state → (handle hash now e r).actions ≡ r.actions ++ actions_after hash r.rooms now e r.state
  unfolding handle handle_message actions_after
  handle-actions now (Received p m) r x =
      message-actions now p m (with_counts (count_message m (first_event now r).counts) (first_event now r)) ((kept-first_event now r).consistent x)
      ∙ rw (first-actions now r, first-rooms now r, first-state now r x.core) (append_assoc r.actions (settled_actions now r.state) (message_actions hash r.rooms p m (settled now r.state)))
  handle-actions now (Broadcast content) r x =
      broadcasted-actions now content (first_event now r) ((kept-first_event now r).consistent x)
      ∙ rw (kept-first_event now r).settings (rw (first-actions now r, first-rooms now r, first-state now r x.core) (append_assoc r.actions (settled_actions now r.state) _))
  handle-actions now (Fired t) r x =
      timer-actions hash now t (first_event now r) ((kept-first_event now r).consistent x)
      ∙ rw (first-actions now r, first-rooms now r, first-state now r x.core) (append_assoc r.actions (settled_actions now r.state) (timer_actions hash r.rooms now t (settled now r.state)))
  handle-actions now (Up as_quiet p) r x = up-actions as_quiet p r ∙ none_more r
  handle-actions now (Down p) r x = down-actions p r ∙ none_more r

  -- the actions themselves
  pub decide-actions : (now : ℕ) (e : Event) (s : State) (c : Counts) (rooms : List Room) → whole s ≡ true → (handle hash now e (begin s c rooms)).actions ≡ actions_after hash rooms now e s
  decide-actions now e s c rooms w = handle-actions now e (begin s c rooms) (whole-consistent s w)
