-- The screen is right (`ScreenRight`). A call and the Rust's call are the same step upon what the first event left, and that differs in its actions alone;
-- a step but EvictCache adds no action 4, and adds the same actions to both.
-- Assumes nothing.
use Rattle.std.proofs.Common.{ℕ, ◌≡◌, refl, sym, ap, subst, ◌∙◌, Bool, true, false, List, [], ◌∷◌, ◌++◌, map, append-nil, append_assoc, ltb, length, if◌then◌else◌}
use Rattle.storage.specs.Lists.Base.{filter}
use Rattle.storage.proofs.ListsLaws.MapLaws.{cases, true≢, all_head, all_tail}
use Rattle.storage.proofs.ListsLaws.Branches.{if-on, if-both}
use Rattle.time_cache.specs.TimeCache.{expired_keys}
use Rattle.time_cache.proofs.GoneLaws.{expired-member, expired-once}
use Rattle.postcard.specs.Message.{Message, Timer, SendGraft, DispatchLazyPush, EvictCache, AnnounceDropped, Event, Received, Broadcast, Fired, Up, Down, Action, Sent, Scheduled, Emitted, Forgotten}
use Rattle.protocol.specs.State.{State, Counts}
use Rattle.protocol.specs.Run.{Run, Room, begin, with_counts, act}
use Rattle.protocol.specs.Gossips.{gossip_size, broadcast, update_links}
use Rattle.protocol.specs.Ticks.{evict, on_evict_cache_timer}
use Rattle.protocol.specs.Neighbours.{on_neighbor_up, on_neighbor_down}
use Rattle.protocol.specs.Handle.{first_event, count_message, on_timer, on_message, handle_message, handle}
use Rattle.protocol.specs.Whole.{whole}
use Rattle.protocol.specs.Screen.{rust_evict, rust_first, rust_timer, rust_handle, is_forgotten, struck, told_by, told, evicted_first, cache_first, evicted_in, BesideRust, ScreenRight}
use Rattle.protocol.specs.Consistent.{Consistent}
use Rattle.protocol.proofs.Consistent.{whole-consistent}
use Rattle.protocol.proofs.WholeKept.{kept-first_event}
use Rattle.decide.specs.Settled.{forgotten_actions, settled_actions}
use Rattle.decide.specs.StateAfter.{broadcast_state, message_state, timer_state}
use Rattle.decide.specs.ActionsAfter.{evict_actions, broadcast_actions, message_actions, timer_actions}
use Rattle.decide.proofs.SettledLaws.{first-actions}
use Rattle.decide.proofs.UpDownEvict.{evict-actions}
use Rattle.decide.proofs.EachEvent.{timer-actions, message-actions, broadcasted-actions}
use Rattle.decide.proofs.StateAfterLaws.{timer-state, message-state, broadcast-state}
use Rattle.decide.proofs.RoomsCall.{send_in, Within, nil, branch, near, alone, message-in, broadcast-in, send_graft-in, dispatch-in, announce-in}
use Rattle.decide.specs.Counted.{message_counts}
use Rattle.decide.proofs.Counted.{message-counts, same-broadcast, same-timer}

-- striking and telling

struck-nil : struck [] ≡ []
unfolding struck filter
struck-nil = refl

struck-append : (xs ys : List Action) → struck (xs ++ ys) ≡ struck xs ++ struck ys
unfolding struck filter
struck-append [] ys = refl
struck-append (a ∷ xs) ys = cases (is_forgotten a) (λ p. rw p (struck-append xs ys)) (λ p. rw p (ap (λ (l : List Action). a ∷ l) (struck-append xs ys)))

told-append : (xs ys : List Action) → told (xs ++ ys) ≡ told xs ++ told ys
unfolding told
told-append [] ys = refl
told-append (a ∷ xs) ys = ap (λ (l : List ℕ). told_by a ++ l) (told-append xs ys) ∙ sym (append_assoc (told_by a) (told xs) (told ys))

struck-forgotten : (ids : List ℕ) → struck (map (λ id. Forgotten id) ids) ≡ []
unfolding struck filter is_forgotten
struck-forgotten [] = refl
struck-forgotten (id ∷ ids) = struck-forgotten ids

told-forgotten : (ids : List ℕ) → told (map (λ id. Forgotten id) ids) ≡ ids
unfolding told told_by
told-forgotten [] = refl
told-forgotten (id ∷ ids) = ap (λ (l : List ℕ). id ∷ l) (told-forgotten ids)

-- actions without an action 4
none-forgotten : (P : ℕ → Bool) (a : Action) → send_in false P a ≡ true → is_forgotten a ≡ false
unfolding is_forgotten
none-forgotten P (Sent p taken m) h = refl
none-forgotten P (Scheduled delay t) h = refl
none-forgotten P (Emitted p content d) h = refl
none-forgotten P (Forgotten id) h = true≢ h

none-told : (P : ℕ → Bool) (a : Action) → send_in false P a ≡ true → told_by a ≡ []
unfolding told_by
none-told P (Sent p taken m) h = refl
none-told P (Scheduled delay t) h = refl
none-told P (Emitted p content d) h = refl
none-told P (Forgotten id) h = true≢ h

struck-none : (P : ℕ → Bool) (xs : List Action) → Within false P xs → struck xs ≡ xs
unfolding struck filter Within
struck-none P [] h = refl
struck-none P (a ∷ xs) h = rw (none-forgotten P a (all_head (send_in false P) a xs h)) (ap (λ (l : List Action). a ∷ l) (struck-none P xs (all_tail (send_in false P) a xs h)))

told-none : (P : ℕ → Bool) (xs : List Action) → Within false P xs → told xs ≡ []
unfolding told Within
told-none P [] h = refl
told-none P (a ∷ xs) h = rw (none-told P a (all_head (send_in false P) a xs h)) (told-none P xs (all_tail (send_in false P) a xs h))

-- an eviction's schedule
struck-schedule : (delay : ℕ) → struck (Scheduled delay EvictCache ∷ []) ≡ Scheduled delay EvictCache ∷ []
unfolding struck filter is_forgotten
struck-schedule delay = refl

told-schedule : (delay : ℕ) → told (Scheduled delay EvictCache ∷ []) ≡ []
unfolding told told_by
told-schedule delay = refl

struck-evict : (now : ℕ) (s : State) → struck (forgotten_actions now s ++ (Scheduled s.settings.cache_evict_interval EvictCache ∷ [])) ≡ Scheduled s.settings.cache_evict_interval EvictCache ∷ []
unfolding forgotten_actions
struck-evict now s =
    struck-append (forgotten_actions now s) (Scheduled s.settings.cache_evict_interval EvictCache ∷ [])
    ∙ (λ i. struck-forgotten (expired_keys now s.cache) i ++ struck-schedule s.settings.cache_evict_interval i)

told-evict : (now : ℕ) (s : State) → told (forgotten_actions now s ++ (Scheduled s.settings.cache_evict_interval EvictCache ∷ [])) ≡ expired_keys now s.cache
unfolding forgotten_actions
told-evict now s =
    told-append (forgotten_actions now s) (Scheduled s.settings.cache_evict_interval EvictCache ∷ [])
    ∙ (λ i. told-forgotten (expired_keys now s.cache) i ++ told-schedule s.settings.cache_evict_interval i)
    ∙ append-nil (expired_keys now s.cache)

-- a broadcast, of the run before it
broadcast-of : (hash : List ℕ → ℕ) (now : ℕ) (content : List ℕ) (y : Run) → Consistent y.state → (broadcast hash now content y).state ≡
    (if ltb y.state.settings.max_message_size (gossip_size (length content)) then y.state else broadcast_state y.rooms now (hash content) content y.state)
unfolding broadcast
broadcast-of hash now content y c =
    if-on (λ (z : Run). z.state) (ltb y.state.settings.max_message_size (gossip_size (length content))) _ _
    ∙ if-both (ltb y.state.settings.max_message_size (gossip_size (length content))) refl (broadcast-state hash now content y c)

module _ (hash : List ℕ → ℕ) (now : ℕ) (s : State) (c : Counts) (rooms : List Room) (w : whole s ≡ true) where
  abbrev start : Run
  start = begin s c rooms

  -- what the first event leaves, and what it leaves in the Rust
  abbrev ours : Run
  ours = first_event now start

  abbrev rusts : Run
  rusts = rust_first now start

  states : ours.state ≡ rusts.state
  unfolding first_event rust_first on_evict_cache_timer rust_evict act
  states = if-on (λ (y : Run). y.state) s.init _ _ ∙ sym (if-on (λ (y : Run). y.state) s.init _ _)

  counted : ours.counts ≡ rusts.counts
  unfolding first_event rust_first on_evict_cache_timer rust_evict act
  counted = if-on (λ (y : Run). y.counts) s.init _ _ ∙ sym (if-on (λ (y : Run). y.counts) s.init _ _)

  roomy : ours.rooms ≡ rusts.rooms
  unfolding first_event rust_first on_evict_cache_timer rust_evict act
  roomy = if-on (λ (y : Run). y.rooms) s.init _ _ ∙ sym (if-on (λ (y : Run). y.rooms) s.init _ _)

  fine : Consistent ours.state
  fine = (kept-first_event now start).consistent (whole-consistent s w)

  fine' : Consistent rusts.state
  fine' = subst (λ (x : State). Consistent x) states fine

  first-struck : struck ours.actions ≡ rusts.actions
  unfolding rust_first rust_evict act settled_actions
  first-struck =
      ap struck (first-actions now start)
      ∙ if-on struck s.init [] (forgotten_actions now s ++ (Scheduled s.settings.cache_evict_interval EvictCache ∷ []))
      ∙ if-both s.init struck-nil (struck-evict now s)
      ∙ sym (if-on (λ (y : Run). y.actions) s.init _ _)

  first-told : told ours.actions ≡ evicted_first now s
  unfolding settled_actions evicted_first
  first-told =
      ap told (first-actions now start)
      ∙ if-on told s.init [] (forgotten_actions now s ++ (Scheduled s.settings.cache_evict_interval EvictCache ∷ []))
      ∙ if-both s.init (unfold told in refl) (told-evict now s)

  first-cache : ours.state.cache ≡ cache_first now s
  unfolding first_event on_evict_cache_timer evict act cache_first
  first-cache = if-on (λ (y : Run). y.state.cache) s.init _ _

  -- a step that adds no action 4
  module _ (x y : Run) (xs ys : List Action) (P : ℕ → Bool) (e : x.actions ≡ ours.actions ++ xs) (d : y.actions ≡ rusts.actions ++ ys) (same : xs ≡ ys) (h : Within false P xs) where
    step-struck : struck x.actions ≡ y.actions
    step-struck =
        ap struck e ∙ struck-append ours.actions xs ∙ (λ i. first-struck i ++ (struck-none P xs h ∙ same) i) ∙ sym d

    step-told : told x.actions ≡ evicted_first now s
    step-told = ap told e ∙ told-append ours.actions xs ∙ (λ i. first-told i ++ told-none P xs h i) ∙ append-nil (evicted_first now s)

  -- a message
  module _ (p : ℕ) (m : Message) where
    abbrev mine : Run
    mine = with_counts (count_message m ours.counts) ours

    abbrev theirs : Run
    theirs = with_counts (count_message m rusts.counts) rusts

    message-same : message_actions hash ours.rooms p m ours.state ≡ message_actions hash rusts.rooms p m rusts.state
    message-same i = message_actions hash (roomy i) p m (states i)

    message-rust : BesideRust (on_message hash now p m mine) (on_message hash now p m theirs)
    message-rust = record {
      state = message-state hash now p m mine fine ∙ (λ i. message_state hash (roomy i) now p m (states i)) ∙ sym (message-state hash now p m theirs fine');
      counts = message-counts hash now p m mine ∙ (λ i. message_counts hash m (states i) (count_message m (counted i))) ∙ sym (message-counts hash now p m theirs);
      actions = step-struck (on_message hash now p m mine) (on_message hash now p m theirs) _ _ (near ours.state p) (message-actions hash now p m mine fine) (message-actions hash now p m theirs fine') message-same (message-in false hash ours.rooms ours.state fine p m);
    }

    message-told : told (on_message hash now p m mine).actions ≡ evicted_first now s
    message-told = step-told (on_message hash now p m mine) (on_message hash now p m theirs) _ _ (near ours.state p) (message-actions hash now p m mine fine) (message-actions hash now p m theirs fine') message-same (message-in false hash ours.rooms ours.state fine p m)

  -- a broadcast
  module _ (content : List ℕ) where
    abbrev sent : List Room → State → List Action
    sent rs t = if ltb t.settings.max_message_size (gossip_size (length content)) then [] else broadcast_actions rs (hash content) content t

    sent-in : Within false (alone ours.state) (sent ours.rooms ours.state)
    sent-in = branch false (alone ours.state) (ltb ours.state.settings.max_message_size (gossip_size (length content))) [] _ (nil false (alone ours.state)) (broadcast-in false hash ours.rooms ours.state fine (hash content) content)

    broadcast-rust : BesideRust (broadcast hash now content ours) (broadcast hash now content rusts)
    broadcast-rust = record {
      state = broadcast-of hash now content ours fine
          ∙ (λ i. if ltb ((states i).settings.max_message_size) (gossip_size (length content)) then states i else broadcast_state (roomy i) now (hash content) content (states i))
          ∙ sym (broadcast-of hash now content rusts fine');
      counts = (same-broadcast hash now content ours).counts ∙ counted ∙ sym (same-broadcast hash now content rusts).counts;
      actions = step-struck (broadcast hash now content ours) (broadcast hash now content rusts) _ _ (alone ours.state) (broadcasted-actions hash now content ours fine) (broadcasted-actions hash now content rusts fine') (λ i. sent (roomy i) (states i)) sent-in;
    }

    broadcast-told : told (broadcast hash now content ours).actions ≡ evicted_first now s
    broadcast-told = step-told (broadcast hash now content ours) (broadcast hash now content rusts) _ _ (alone ours.state) (broadcasted-actions hash now content ours fine) (broadcasted-actions hash now content rusts fine') (λ i. sent (roomy i) (states i)) sent-in

  -- a timer but EvictCache
  module _ (t : Timer) (h : Within false (alone ours.state) (timer_actions hash ours.rooms now t ours.state)) where
    timer-rust : BesideRust (on_timer now t ours) (on_timer now t rusts)
    timer-rust = record {
      state = timer-state now t ours fine ∙ (λ i. timer_state (roomy i) now t (states i)) ∙ sym (timer-state now t rusts fine');
      counts = (same-timer now t ours).counts ∙ counted ∙ sym (same-timer now t rusts).counts;
      actions = step-struck (on_timer now t ours) (on_timer now t rusts) _ _ (alone ours.state) (timer-actions hash now t ours fine) (timer-actions hash now t rusts fine') (λ i. timer_actions hash (roomy i) now t (states i)) h;
    }

    timer-told : told (on_timer now t ours).actions ≡ evicted_first now s
    timer-told = step-told (on_timer now t ours) (on_timer now t rusts) _ _ (alone ours.state) (timer-actions hash now t ours fine) (timer-actions hash now t rusts fine') (λ i. timer_actions hash (roomy i) now t (states i)) h

  -- EvictCache
  evict-rust : BesideRust (on_evict_cache_timer now ours) (rust_evict now rusts)
  unfolding on_evict_cache_timer rust_evict act evict_actions
  evict-rust = record {
    state = ap (evict now) states;
    counts = counted;
    actions = ap struck (evict-actions now ours) ∙ struck-append ours.actions (evict_actions now ours.state)
        ∙ (λ i. first-struck i ++ struck-evict now ours.state i)
        ∙ ap (λ (x : State). rusts.actions ++ (Scheduled x.settings.cache_evict_interval EvictCache ∷ [])) states;
  }

  evict-told : told (on_evict_cache_timer now ours).actions ≡ evicted_first now s ++ expired_keys now (cache_first now s)
  unfolding evict_actions
  evict-told =
      ap told (evict-actions now ours) ∙ told-append ours.actions (evict_actions now ours.state)
      ∙ (λ i. first-told i ++ (told-evict now ours.state ∙ ap (expired_keys now) first-cache) i)

module _ (hash : List ℕ → ℕ) where
  right-rust : (now : ℕ) (e : Event) (s : State) (c : Counts) (rooms : List Room) → whole s ≡ true → BesideRust (handle hash now e (begin s c rooms)) (rust_handle hash now e (begin s c rooms))
  unfolding handle rust_handle handle_message
  right-rust now (Received p m) s c rooms w = message-rust hash now s c rooms w p m
  right-rust now (Broadcast content) s c rooms w = broadcast-rust hash now s c rooms w content
  right-rust now (Fired (SendGraft id)) s c rooms w = unfold rust_timer on_timer in timer-rust hash now s c rooms w (SendGraft id) (send_graft-in false hash _ _ (fine hash now s c rooms w) now id)
  right-rust now (Fired DispatchLazyPush) s c rooms w = unfold rust_timer on_timer in timer-rust hash now s c rooms w DispatchLazyPush (dispatch-in false hash _ _ (fine hash now s c rooms w) now)
  right-rust now (Fired EvictCache) s c rooms w = unfold rust_timer on_timer in evict-rust hash now s c rooms w
  right-rust now (Fired AnnounceDropped) s c rooms w = unfold rust_timer on_timer in timer-rust hash now s c rooms w AnnounceDropped (announce-in false hash _ _ (fine hash now s c rooms w) now)
  right-rust now (Up as_quiet p) s c rooms w = record { state = refl; counts = refl; actions = unfold on_neighbor_up update_links struck filter in refl }
  right-rust now (Down p) s c rooms w = record { state = refl; counts = refl; actions = unfold on_neighbor_down struck filter in refl }

  right-told : (now : ℕ) (e : Event) (s : State) (c : Counts) (rooms : List Room) → whole s ≡ true → told (handle hash now e (begin s c rooms)).actions ≡ evicted_in now e s
  unfolding handle handle_message evicted_in
  right-told now (Received p m) s c rooms w = message-told hash now s c rooms w p m
  right-told now (Broadcast content) s c rooms w = broadcast-told hash now s c rooms w content
  right-told now (Fired (SendGraft id)) s c rooms w = timer-told hash now s c rooms w (SendGraft id) (send_graft-in false hash _ _ (fine hash now s c rooms w) now id)
  right-told now (Fired DispatchLazyPush) s c rooms w = timer-told hash now s c rooms w DispatchLazyPush (dispatch-in false hash _ _ (fine hash now s c rooms w) now)
  right-told now (Fired EvictCache) s c rooms w = unfold on_timer in evict-told hash now s c rooms w
  right-told now (Fired AnnounceDropped) s c rooms w = timer-told hash now s c rooms w AnnounceDropped (announce-in false hash _ _ (fine hash now s c rooms w) now)
  right-told now (Up as_quiet p) s c rooms w = unfold on_neighbor_up update_links told in refl
  right-told now (Down p) s c rooms w = unfold on_neighbor_down told in refl

  pub screen-right : ScreenRight hash
  screen-right = record { rust = right-rust; screen = right-told; gone = λ now k s w. expired-member now k s.cache; each = λ now s w. expired-once now s.cache }
