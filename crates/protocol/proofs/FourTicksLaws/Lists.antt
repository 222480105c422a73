-- "No announcement waits past four ticks": over the list of calls. No question is used: it holds of every list in which each event is refused, with any number, or run.
-- Assumes nothing.
use Rattle.std.proofs.Common.{ℕ, ◌+◌, ◌*◌, ◌≤◌, arith, ◌≡◌, refl, sym, ap, subst, ◌∙◌, Bool, true, false, List, [], ◌∷◌, ◌++◌, if◌then◌else◌}
use Rattle.storage.specs.Lists.Base.{any, count}
use Rattle.storage.proofs.ListsLaws.MapLaws.{cases, true≢}
use Rattle.storage.proofs.ListsLaws.ListLaws.{length-filter, count-append}
use Rattle.postcard.specs.Message.{Event}
use Rattle.protocol.specs.State.{State, Counts, Settings, Limits, created, create, fresh}
use Rattle.protocol.specs.Run.{Run, Room, begin}
use Rattle.protocol.specs.Push.{for_peer}
use Rattle.protocol.specs.Ticks.{per_message}
use Rattle.protocol.specs.Consistent.{Within}
use Rattle.protocol.specs.Answer.{Call, Answer, refuse, accept, ask_whole}
use Rattle.protocol.specs.Calls.{run_calls, state_after, counts_after, prepend}
use Rattle.protocol.specs.NoNeighbourPassedOver.{by_event, by_action, Never, is_down, tells_down, sent, taken_or_handed_back, dispatch_tick, announce_tick, fires_tick, fired}
use Rattle.protocol.specs.AlikeCalls.Peerwise.{of_peer}
use Rattle.protocol.specs.ReadingsFollowTheTree.{announcement_of, state_left}
use Rattle.protocol.specs.FourTicks.{by_state, on_record, on_queue, off_record, ticks, Leaves, went_down, not_cached, went_to_queue, Waited, still_there, left_by, WaitsFourTicks, FourTicks}
use Rattle.protocol.proofs.Accepted.{ask-cases}
use Rattle.protocol.proofs.Step.{ran_on}
use Rattle.protocol.proofs.StepRecord.{timers}
use Rattle.protocol.proofs.NoNeighbourPassedOver.{Fresh, create-fresh}
use Rattle.protocol.proofs.AlikeCallsLaws.PeerLaws.{any_of}
use Rattle.protocol.proofs.FourTicksLaws.Places.{last, last-some, last-length}
use Rattle.protocol.proofs.FourTicksLaws.Tick.{After, stays, uncached, queues, recorded-step, down-step, begun-step, queued-step, sent-step}

none-head : {A : Type 0} (f : A → Bool) (x : A) (xs : List A) → any f (x ∷ xs) ≡ false → f x ≡ false
unfolding any
none-head f x xs h = cases (f x) (λ e. true≢ (sym (rw e at h))) (λ e. e)

none-tail : {A : Type 0} (f : A → Bool) (x : A) (xs : List A) → any f (x ∷ xs) ≡ false → any f xs ≡ false
unfolding any
none-tail f x xs h = rw (none-head f x xs h) at h

none-cons : {A : Type 0} (f : A → Bool) (x : A) (xs : List A) → f x ≡ false → any f xs ≡ false → any f (x ∷ xs) ≡ false
unfolding any
none-cons f x xs h k = rw h k

module _ (hash : List ℕ → ℕ) where
  -- the answers to a list of events from a state, each of which is refused, with any number, or run
  pub data Trace : State → List Answer → Type 0 where
    ends : (s : State) → Trace s []
    refuses : (s : State) (n : ℕ) (more : List Answer) → Trace s more → Trace s (refuse n ∷ more)
    runs : (s : State) (n : Counts) (rooms : List Room) (now : ℕ) (e : Event) (more : List Answer) →
        Trace (ran_on hash s n rooms now e).state more → Trace s (accept e (ran_on hash s n rooms now e) ∷ more)

  pub trace-run_calls : (s : State) (c : Counts) (ks : List Call) → Trace s (run_calls hash s c ks).answers
  unfolding run_calls prepend state_after
  trace-run_calls s c [] = ends s
  trace-run_calls s c (k ∷ ks) =
      ask-cases hash s c k (λ a. Trace (state_after s a) (run_calls hash (state_after s (ask_whole hash s c k)) (counts_after c (ask_whole hash s c k)) ks).answers → Trace s (a ∷ (run_calls hash (state_after s (ask_whole hash s c k)) (counts_after c (ask_whole hash s c k)) ks).answers))
      (λ n t. refuses s n _ t) (λ e x t. runs s c k.rooms k.now e _ t)
      (trace-run_calls (state_after s (ask_whole hash s c k)) (counts_after c (ask_whole hash s c k)) ks)

  -- an IHave holds at least one identifier
  abbrev One : State → Type 0
  One s = 1 ≤ per_message s.settings.max_message_size

  one-step : (s : State) (n : Counts) (rooms : List Room) (now : ℕ) (e : Event) → One s → One (ran_on hash s n rooms now e).state
  one-step s n rooms now e one = subst (λ (c : Settings). 1 ≤ per_message c.max_message_size) (sym (timers hash now e (begin s n rooms)).settings) one

  module _ (p id : ℕ) where
    -- the queue's tick

    sent-next : (s : State) (since : List Answer) → Trace s since → One s → on_queue p id s ≡ true → (between : List Answer) (tick : Answer) (later : List Answer) → since ≡ between ++ (tick ∷ later) →
        Never (fired dispatch_tick) between → fired dispatch_tick tick ≡ true → Never (tells_down p) between → sent p (announcement_of id) taken_or_handed_back tick ≡ true
    unfolding fired by_event tells_down sent by_action
    sent-next s _ (ends _) one q [] tick later e nf f nd = let z : false ≡ true = cc in true≢ z
    sent-next s _ (ends _) one q (b ∷ between) tick later e nf f nd = let z : false ≡ true = cc in true≢ z
    sent-next s _ (refuses _ n more t) one q [] tick later e nf f nd = let a : refuse n ≡ tick = cc in true≢ (rw (← a) at f)
    sent-next s _ (refuses _ n more t) one q (b ∷ between) tick later e nf f nd =
        let a : more ≡ between ++ (tick ∷ later) = cc in
        sent-next s more t one q between tick later a (none-tail (fired dispatch_tick) b between nf) f (none-tail (tells_down p) b between nd)
    sent-next s _ (runs _ n rooms now v more t) one q [] tick later e nf f nd =
        let a : accept v (ran_on hash s n rooms now v) ≡ tick = cc in
        rw (← a) (sent-step p id hash now v (begin s n rooms) one q (rw (← a) at f))
    sent-next s _ (runs _ n rooms now v more t) one q (b ∷ between) tick later e nf f nd =
        let a : accept v (ran_on hash s n rooms now v) ≡ b = cc in
        let m : more ≡ between ++ (tick ∷ later) = cc in
        sent-next (ran_on hash s n rooms now v).state more t (one-step s n rooms now v one)
        (queued-step p id hash now v (begin s n rooms) q (rw (← a) at (none-head (tells_down p) b between nd)) (rw (← a) at (none-head (fired dispatch_tick) b between nf)))
        between tick later m (none-tail (fired dispatch_tick) b between nf) f (none-tail (tells_down p) b between nd)

    -- the record's ticks, of which t came before
    data From (t : ℕ) (s : State) (after : List Answer) : Type 0 where
      standing : Never (by_state (off_record p id)) after → t + ticks after ≤ 3 → From t s after
      gone : (until : List Answer) (call : Answer) (since : List Answer) → after ≡ until ++ (call ∷ since) →
          Never (by_state (off_record p id)) until → t + ticks until ≤ 3 → by_state (off_record p id) call ≡ true → Leaves p id (state_left s until) call since → From t s after

    ticks-cons : (a : Answer) (after : List Answer) → ticks (a ∷ after) ≡ ticks (a ∷ []) + ticks after
    ticks-cons a after = count-append (fired announce_tick) (a ∷ []) after

    -- one call more in front, after which it stands
    in-front : (s : State) (a : Answer) (t : ℕ) (after : List Answer) → by_state (off_record p id) a ≡ false → From (t + ticks (a ∷ [])) (state_after s a) after → From t s (a ∷ after)
    unfolding state_left
    in-front s a t after h (standing n l) = standing (none-cons (by_state (off_record p id)) a after h n) (omega (arith, l, ticks-cons a after))
    in-front s a t after h (gone until call since e n l o w) =
        gone (a ∷ until) call since (ap (λ (xs : List Answer). a ∷ xs) e) (none-cons (by_state (off_record p id)) a until h n) (omega (arith, l, ticks-cons a until)) o w

    few : (s : State) (t : ℕ) → on_record p id s ≡ true → last id (of_peer p s.dropped) + 64 * t ≤ 256 → t ≤ 3
    few s t h b = omega (arith, b, last-some id (of_peer p s.dropped) (sym (any_of p id s.dropped) ∙ h))

    -- it leaves by this call
    now-gone : (s : State) (a : Answer) (t : ℕ) (after : List Answer) → t ≤ 3 → by_state (off_record p id) a ≡ true → Leaves p id s a after → From t s (a ∷ after)
    unfolding any count state_left
    now-gone s a t after l o w = gone [] a after refl refl (omega (arith, l)) o w

    no-tick : (n t : ℕ) → t + ticks (refuse n ∷ []) ≡ t
    unfolding count fired by_event
    no-tick n t = omega arith

    -- a tick brings it nearer by 64
    nearer : (e : Event) (r : Run) (t before : ℕ) → last id (of_peer p r.state.dropped) + (if fires_tick announce_tick e then 64 else 0) ≤ before → before + 64 * t ≤ 256 →
        last id (of_peer p r.state.dropped) + 64 * (t + ticks (accept e r ∷ [])) ≤ 256
    unfolding count fired by_event
    nearer e r t before l b =
        cases (fires_tick announce_tick e)
        (λ f. rw f (let m : last id (of_peer p r.state.dropped) + 64 ≤ before = rw f at l in omega (arith, m, b)))
        (λ f. rw f (let m : last id (of_peer p r.state.dropped) + 0 ≤ before = rw f at l in omega (arith, m, b)))

    waits : (s : State) (after : List Answer) → Trace s after → (t : ℕ) → One s → s.init ≡ true → on_record p id s ≡ true → last id (of_peer p s.dropped) + 64 * t ≤ 256 → From t s after
    unfolding by_state fired by_event tells_down any count state_after
    waits s _ (ends _) t one i h b = standing refl (omega (arith, few s t h b))
    waits s _ (refuses _ n more x) t one i h b = in-front s (refuse n) t more refl (rw (no-tick n t) (waits s more x t one i h b))
    waits s _ (runs _ n rooms now e more x) t one i h b =
        cases (is_down p e)
        (λ d. now-gone s (accept e (ran_on hash s n rooms now e)) t more (few s t h b) (rw (down-step p id hash now e (begin s n rooms) d)) (went_down d))
        (λ d. on (ran_on hash s n rooms now e) (one-step s n rooms now e one) x
        (λ u o c. waits (ran_on hash s n rooms now e).state more x u (one-step s n rooms now e one) (begun-step p id hash now e (begin s n rooms) (λ k. i) o) o c)
        (recorded-step p id hash now e (begin s n rooms) i h d))
      where
        on : (r : Run) → One r.state → Trace r.state more → ((u : ℕ) → on_record p id r.state ≡ true → last id (of_peer p r.state.dropped) + 64 * u ≤ 256 → From u r.state more) →
            After p id (fires_tick announce_tick e) (begin s n rooms) r → From t s (accept e r ∷ more)
        on r o y go (stays d l) = in-front s (accept e r) t more (rw d) (go (t + ticks (accept e r ∷ [])) d (nearer e r t _ l b))
        on r o y go (uncached f g c) = now-gone s (accept e r) t more (few s t h b) (rw g) (not_cached f c)
        on r o y go (queues f g q) = now-gone s (accept e r) t more (few s t h b) (rw g) (went_to_queue f q (record { sends = sent-next r.state more y o q }))

    -- "records within 256": it stands at most at place 256
    at-most-256 : (s : State) → Within s.dropped → last id (of_peer p s.dropped) + 64 * 0 ≤ 256
    at-most-256 s w = omega (arith, last-length id (of_peer p s.dropped), length-filter (for_peer p) s.dropped, w.each p)

    -- a panel on whose record it stands has begun
    abbrev Begun : State → Type 0
    Begun s = on_record p id s ≡ true → s.init ≡ true

    -- from any such state in which it stands recorded, the record within its bounds
    waited-from : (s : State) (after : List Answer) → Trace s after → One s → Within s.dropped → Begun s → on_record p id s ≡ true → Waited p id s after
    waited-from s after x one w begun h = on (waits s after x 0 one (begun h) h (at-most-256 s w))
      where
        on : From 0 s after → Waited p id s after
        on (standing n l) = still_there n (omega (arith, l))
        on (gone until call since e n l o v) = left_by until call since e n (omega (arith, l)) o v

    -- from each place of a list at which it stands recorded
    waited-in : (s : State) (past : List Answer) → Trace s past → One s → Within s.dropped → Begun s → (before after : List Answer) (e : Event) (r : Run) → past ≡ before ++ (accept e r ∷ after) →
        on_record p id r.state ≡ true → Waited p id r.state after
    waited-in s _ (ends _) one w begun [] after e r q h = let z : false ≡ true = cc in true≢ z
    waited-in s _ (ends _) one w begun (b ∷ before) after e r q h = let z : false ≡ true = cc in true≢ z
    waited-in s _ (refuses _ n more x) one w begun [] after e r q h = let z : false ≡ true = cc in true≢ z
    waited-in s _ (refuses _ n more x) one w begun (b ∷ before) after e r q h = let m : more ≡ before ++ (accept e r ∷ after) = cc in waited-in s more x one w begun before after e r m h
    waited-in s _ (runs _ n rooms now v more x) one w begun [] after e r q h =
        let a : ran_on hash s n rooms now v ≡ r = cc in
        let m : more ≡ after = cc in
        rw (← m, ← a) (waited-from (ran_on hash s n rooms now v).state more x (one-step s n rooms now v one) ((timers hash now v (begin s n rooms)).within w)
        (begun-step p id hash now v (begin s n rooms) begun) (rw (← a) at h))
    waited-in s _ (runs _ n rooms now v more x) one w begun (b ∷ before) after e r q h =
        let m : more ≡ before ++ (accept e r ∷ after) = cc in
        waited-in (ran_on hash s n rooms now v).state more x (one-step s n rooms now v one) ((timers hash now v (begin s n rooms)).within w)
        (begun-step p id hash now v (begin s n rooms) begun) before after e r m h

  -- from what an accepted creation leaves: the answers to any list
  pub waits-from-fresh : (c : Settings) (l : Limits) (block_length : ℕ) (s : State) (n : Counts) → create c l block_length ≡ created s n → (past : List Answer) → Trace s past → WaitsFourTicks past
  unfolding per_message fresh count any
  waits-from-fresh c l block_length s n h past x =
      let f : Fresh c l s = create-fresh c l block_length s n h in
      let one : 1 ≤ per_message c.max_message_size = omega (arith, f.size) in
      record {
        always = λ p id before after e r q k. waited-in p id s past x (rw f.state one) (rw f.state (record { each = λ p. omega arith; in_all = omega arith })) (λ o. true≢ (rw f.state at o)) before after e r q k;
      }

pub four-ticks : (hash : List ℕ → ℕ) → FourTicks hash
four-ticks hash = record {
  always = λ c l block_length s n h ks. waits-from-fresh hash c l block_length s n h (run_calls hash s n ks).answers (trace-run_calls hash s n ks);
}
