-- `output_size` bytes are enough, over lists of calls from a fresh panel.
-- Assumes nothing.
use Rattle.std.proofs.Common.{ℕ, ◌≤◌, ◌<◌, ◌^◌, ◌≡◌, refl, sym, ap, subst, ◌∙◌, true, false, ◌&&◌, ◌||◌, List, [], ◌∷◌, arith, eqb, leb, length, leb-true, leb-false}
use borrow.Author.Tests.{eqb-false}
use Rattle.storage.specs.Lists.Base.{all}
use Rattle.storage.specs.Lists.Map.{Map}
use Rattle.storage.proofs.ListsLaws.MapLaws.{cases, true≢, and_left, and_right, all_head, all_tail, all_cons}
use Rattle.time_cache.specs.TimeCache.{Timed}
use Rattle.postcard.specs.Wide.{Bytes, MessageWide}
use Rattle.postcard.specs.Message.{Swarm, Neighbors, Message, Gossip, Prune, Graft, IHave, Event, Received, Broadcast, Fired, Up, Down}
use Rattle.postcard.specs.Decode.{Decoded, decoded, faulty, decode_event, message_part}
use Rattle.postcard.proofs.DecodeBack.{decode-wide, message-size}
use Rattle.postcard.proofs.DecodeFaults.{decode-faults}
use Rattle.protocol.specs.State.{State, Counts, Settings, Limits, fresh, size_in_range, up_to, limits_in_range, Cached, created, create}
use Rattle.protocol.specs.Run.{Run, begin, act}
use Rattle.protocol.specs.Handle.{first_event}
use Rattle.protocol.specs.Ticks.{on_evict_cache_timer}
use Rattle.protocol.specs.Whole.{cache_fits, fits, in_range, whole}
use Rattle.protocol.specs.Answer.{Call, Answer, refuse, accept, message_fits, counts_stay, last_round, too_far, too_far_message, output_of, last_two, ask_of, ask_read, ask, ask_whole}
use Rattle.protocol.specs.Calls.{run_calls, prepend}
use Rattle.protocol.specs.Calls as Calls
use Rattle.protocol.proofs.Consistent.{whole-ranged}
use Rattle.protocol.proofs.Accepted.{run_of, ask-cases}
use Rattle.protocol.proofs.WholeKept.{kept-handle}
use Rattle.protocol.proofs.NoNeighbourPassedOver.{Fresh, create-fresh}
use Rattle.decide.specs.StateAfter.{first_state}
use Rattle.decide.specs.ActionsAfter.{actions_after}
use Rattle.output_size.specs.OutputSize.{output_size, AllBytes, Enough, OutputSize}
use Rattle.decide.proofs.LengthLaws.{length-message, length-actions}
use Rattle.decide.proofs.EachEvent.{decide-actions}
use Rattle.decide.proofs.StateAfterLaws.{decide-state}
use Rattle.output_size.proofs.Steps.{entry_fits}
use Rattle.output_size.proofs.DispatchWeight.{short_note}
use Rattle.output_size.proofs.Events.{Bounded, event_length, actions-weight}
use Rattle.output_size.proofs.Kept.{entry_good, Stands, begins, goes_on, Near, NearEvent, good-after}

-- the parts of a whole state

fits-links : (s : State) → fits s ≡ true → leb (length s.links) s.limits.N ≡ true
unfolding fits
fits-links s h = search (and_left, and_right) depth 12

fits-cache : (s : State) → fits s ≡ true → leb (length s.cache.entries) s.limits.C ≡ true
unfolding fits cache_fits
fits-cache s h = search (and_left, and_right) depth 12

fits-queue : (s : State) → fits s ≡ true → leb (length s.queue) s.limits.Q ≡ true
unfolding fits
fits-queue s h = search (and_left, and_right) depth 12

whole-fits : (s : State) → whole s ≡ true → fits s ≡ true
unfolding whole in_range
whole-fits s h = search (and_left, and_right) depth 25

one-neighbour : (l : Limits) → limits_in_range l ≡ true → leb 1 l.N ≡ true
unfolding limits_in_range up_to
one-neighbour l h = search (and_left, and_right) depth 12

entries-fit : (M : ℕ) (m : Map (Timed Cached)) → all (entry_good M) m ≡ true → all (entry_fits M) m ≡ true
unfolding entry_good all
entries-fit M [] h = refl
entries-fit M (e ∷ m) h = all_cons (entry_fits M) e m (and_left (entry_fits M e) (leb e.value.value.round 65535) (all_head (entry_good M) e m h)) (entries-fit M m (all_tail (entry_good M) e m h))

bounded : (s : State) → whole s ≡ true → Stands s.settings.max_message_size s → Bounded s
unfolding size_in_range
bounded s w v = record {
  some = leb-true 1 s.limits.N (one-neighbour s.limits (whole-ranged s w).limits);
  size = leb-true 510 s.settings.max_message_size (and_left (leb 510 s.settings.max_message_size) (leb s.settings.max_message_size 4094) (whole-ranged s w).size);
  links = leb-true (length s.links) s.limits.N (fits-links s (whole-fits s w));
  queue = leb-true (length s.queue) s.limits.Q (fits-queue s (whole-fits s w));
  short = queued v;
  cached = cached v;
  entries = leb-true (length s.cache.entries) s.limits.C (fits-cache s (whole-fits s w));
  started = started v;
}
  where
    queued : Stands s.settings.max_message_size s → all short_note s.queue ≡ true
    queued (goes_on g) = g.queue
    queued (begins m i c q d) = rw q (unfold all in refl)

    cached : Stands s.settings.max_message_size s → all (entry_fits s.settings.max_message_size) s.cache.entries ≡ true
    cached (goes_on g) = entries-fit s.settings.max_message_size s.cache.entries g.cached
    cached (begins m i c q d) = rw c (unfold all in refl)

    started : Stands s.settings.max_message_size s → s.init ≡ false → s.cache.entries ≡ []
    started (goes_on g) e = true≢ (sym e ∙ g.begun)
    started (begins m i c q d) e = c

-- what is known of an event that was read

read-length : (M : ℕ) (bs : List ℕ) (e : Event) → Bytes bs → decode_event bs ≡ decoded e → message_fits M bs e ≡ true → event_length e ≤ M
unfolding message_fits event_length
read-length M bs (Received p m) y d h =
    omega (arith, (message-size bs p m y d).1, length-message m, leb-true (length (message_part bs)) M h)
read-length M bs (Broadcast content) y d h = omega arith
read-length M bs (Fired t) y d h = omega arith
read-length M bs (Up as_quiet p) y d h = omega arith
read-length M bs (Down p) y d h = omega arith

first-same : (s : State) (c : Counts) (k : Call) → (first_event k.now (begin s c k.rooms)).state ≡ first_state k.now s
unfolding first_event first_state on_evict_cache_timer act
first-same s c k = cases s.init (λ t. rw t refl) (λ t. rw t refl)

-- of each call, with its answer
pub data EachAnswer (size : ℕ) : List Call → List Answer → Type 0 where
  no_more : EachAnswer size [] []
  one_more : (k : Call) (a : Answer) (ks : List Call) (answers : List Answer) → Enough size k a → EachAnswer size ks answers → EachAnswer size (k ∷ ks) (a ∷ answers)

module _ (hash : List ℕ → ℕ) where
  near_of : (m : Message) (s : State) → MessageWide m → too_far_message hash m s ≡ false → Near hash m s
  unfolding Near too_far_message last_round
  near_of (Gossip id content (Swarm round)) s w f = λ t u. below round w.2 (rw (t, u) at f)
    where
      below : (r : ℕ) → r < 2 ^ 16 → (eqb r 65535 && true) ≡ false → r ≤ 65534
      below r w h = cases (eqb r 65535) (λ t. true≢ (sym (rw t at h))) (λ t. omega (arith, w, eqb-false r 65535 t))
  near_of (Gossip id content Neighbors) s w f = tt
  near_of Prune s w f = tt
  near_of (Graft wanted round) s w f = tt
  near_of (IHave hs) s w f = tt

  near-event : (now : ℕ) (bs : List ℕ) (e : Event) (s : State) → Bytes bs → decode_event bs ≡ decoded e → too_far hash e (first_state now s) ≡ false → NearEvent hash now e s
  unfolding NearEvent too_far
  near-event now bs (Received p m) s y d f = near_of m (first_state now s) (decode-wide bs (Received p m) y d).1 f
  near-event now bs (Broadcast content) s y d f = tt
  near-event now bs (Fired t) s y d f = tt
  near-event now bs (Up as_quiet p) s y d f = tt
  near-event now bs (Down p) s y d f = tt

  -- the actions of an event that was read, upon a whole state
  output-few : (s : State) (c : Counts) (k : Call) (e : Event) → whole s ≡ true → Stands s.settings.max_message_size s → Bytes k.event → decode_event k.event ≡ decoded e → message_fits s.settings.max_message_size k.event e ≡ true →
      length (output_of (run_of hash s c k e)) ≤ output_size s.limits s.settings.max_message_size
  unfolding output_of
  output-few s c k e w g y d h =
      rw (decide-actions hash k.now e s c k.rooms w)
      (omega (arith, length-actions (actions_after hash k.rooms k.now e s), actions-weight hash k.rooms k.now s (bounded s w g) e (read-length s.settings.max_message_size k.event e y d h)))

  -- what is kept along a list
  record Along (c : Settings) (l : Limits) (s : State) : Type 0 where
    settings : s.settings ≡ c
    limits : s.limits ≡ l
    good : Stands c.max_message_size s

  along-call : (c : Settings) (l : Limits) (s : State) (n : Counts) (k : Call) → Bytes k.event → Along c l s → Along c l (Calls.state_after s (ask_whole hash s n k))
  unfolding Calls.state_after
  along-call c l s n k y a =
      ask-cases hash s n k (λ x. Along c l (Calls.state_after s x)) (λ m. a)
      (λ e x. let q = kept-handle hash k.now e (begin s n k.rooms) in
      let M = c.max_message_size in
      let h : event_length e ≤ M = omega (arith, read-length s.settings.max_message_size k.event e y x.read789 x.size10, ap (λ (z : Settings). z.max_message_size) a.settings) in
      let near : NearEvent hash k.now e s = near-event k.now k.event e s y x.read789 (rw (first-same s n k) at x.near12) in
      record {
        settings = q.settings ∙ a.settings;
        limits = q.limits ∙ a.limits;
        good = subst (λ (z : State). Stands c.max_message_size z) (sym (decide-state hash k.now e s n k.rooms x.whole5)) (good-after hash c.max_message_size k.rooms k.now e s h near a.good);
      })

  along-list : (c : Settings) (l : Limits) (ks : List Call) → AllBytes ks → (s : State) (n : Counts) → Along c l s → Along c l (run_calls hash s n ks).state
  unfolding run_calls prepend AllBytes
  along-list c l [] y s n a = a
  along-list c l (k ∷ ks) y s n a = along-list c l ks y.1 (Calls.state_after s (ask_whole hash s n k)) (Calls.counts_after n (ask_whole hash s n k)) (along-call c l s n k y.0 a)

  -- one call

  same-refusal : (n m : ℕ) → refuse n ≡ refuse m → n ≡ m
  same-refusal n m e = cc

  no-refusal : (e : Event) (r : Run) (m : ℕ) → accept e r ≡ refuse m → ⊥
  no-refusal e r m h = let z : false ≡ true = cc in true≢ z

  same-run : (e e' : Event) (r r' : Run) → accept e r ≡ accept e' r' → r ≡ r'
  same-run e e' r r' h = cc

  not-accepted : (n : ℕ) (e : Event) (r : Run) → refuse n ≡ accept e r → ⊥
  not-accepted n e r h = let z : false ≡ true = cc in true≢ z

  refused : (size n : ℕ) (k : Call) → (n ≡ 14 → ⊥) → Enough size k (refuse n)
  refused size n k ne = record { fits = λ e r h. absurd (not-accepted n e r h); never_14 = λ o h. ne (same-refusal n 14 h) }

  enough-two : (size : ℕ) (k : Call) (e : Event) (r : Run) → length (output_of r) ≤ size → Enough size k (last_two k.output e r)
  unfolding last_two
  enough-two size k e r h =
      cases (fits r.state)
      (λ t. cases (leb (length (output_of r)) k.output)
      (λ u. rw (t, u) (record { fits = λ e' r' q. subst (λ (z : Run). length (output_of z) ≤ size) (same-run e e' r r' q) h; never_14 = λ o q. no-refusal e r 14 q }))
      (λ u. rw (t, u) (record { fits = λ e' r' q. absurd (not-accepted 14 e' r' q); never_14 = λ o q. omega (arith, o, h, leb-false (length (output_of r)) k.output u) })))
      (λ t. rw t (refused size 13 k (λ q. omega (arith, q))))

  enough-read : (s : State) (c : Counts) (k : Call) (d : Decoded Event) → decode_event k.event ≡ d → whole s ≡ true → Stands s.settings.max_message_size s → Bytes k.event → Enough (output_size s.limits s.settings.max_message_size) k (ask_read hash s c k d)
  unfolding ask_read ask_of
  enough-read s c k (faulty n) q w g y = refused _ n k (λ z. not-14 n z (rw q at (decode-faults k.event)))
    where
      not-14 : (n : ℕ) → n ≡ 14 → (leb 7 n && leb n 9 || eqb n 23) ≡ true → ⊥
      not-14 n z f = true≢ (rw z at f)
  enough-read s c k (decoded e) q w g y =
      cases (message_fits s.settings.max_message_size k.event e)
      (λ a. cases (counts_stay e c)
      (λ b. cases (too_far hash e (first_event k.now (begin s c k.rooms)).state)
      (λ f. rw (a, b, f) (refused _ 12 k (λ z. omega (arith, z))))
      (λ f. rw (a, b, f) (enough-two _ k e (run_of hash s c k e) (output-few s c k e w g y q a))))
      (λ b. rw (a, b) (refused _ 11 k (λ z. omega (arith, z)))))
      (λ a. rw a (refused _ 10 k (λ z. omega (arith, z))))

  enough-call : (s : State) (c : Counts) (k : Call) → Stands s.settings.max_message_size s → Bytes k.event → Enough (output_size s.limits s.settings.max_message_size) k (ask_whole hash s c k)
  unfolding ask_whole ask
  enough-call s c k g y =
      cases (whole s)
      (λ w. cases (leb k.now (2 ^ 62)) (λ t. rw (w, t) (enough-read s c k (decode_event k.event) refl w g y)) (λ t. rw (w, t) (refused _ 6 k (λ z. omega (arith, z)))))
      (λ w. rw w (refused _ 5 k (λ z. omega (arith, z))))

  along-fresh : (c : Settings) (l : Limits) (b : ℕ) (s : State) (n : Counts) → create c l b ≡ created s n → Along c l s
  unfolding fresh
  along-fresh c l b s n h =
      let f : Fresh c l s = create-fresh c l b s n h in
      subst (λ (x : State). Along c l x) (sym f.state) (record { settings = refl; limits = refl; good = begins refl refl refl refl refl })

  enough-along : (c : Settings) (l : Limits) (s : State) (n : Counts) (k : Call) → Bytes k.event → Along c l s → Enough (output_size l c.max_message_size) k (ask_whole hash s n k)
  enough-along c l s n k y a =
      subst (λ (x : Settings). Enough (output_size l x.max_message_size) k (ask_whole hash s n k)) a.settings
      (subst (λ (x : Limits). Enough (output_size x s.settings.max_message_size) k (ask_whole hash s n k)) a.limits
      (enough-call s n k (subst (λ (x : Settings). Stands x.max_message_size s) (sym a.settings) a.good) y))

  -- of each call of a list, with its answer
  each-along : (c : Settings) (l : Limits) (ks : List Call) → AllBytes ks → (s : State) (n : Counts) → Along c l s → EachAnswer (output_size l c.max_message_size) ks (run_calls hash s n ks).answers
  unfolding run_calls prepend AllBytes
  each-along c l [] y s n a = no_more
  each-along c l (k ∷ ks) y s n a =
      one_more k _ ks _ (enough-along c l s n k y.0 a) (each-along c l ks y.1 (Calls.state_after s (ask_whole hash s n k)) (Calls.counts_after n (ask_whole hash s n k)) (along-call c l s n k y.0 a))

  pub each-enough : (c : Settings) (l : Limits) (b : ℕ) (s : State) (n : Counts) → create c l b ≡ created s n → (ks : List Call) → AllBytes ks → EachAnswer (output_size l c.max_message_size) ks (run_calls hash s n ks).answers
  each-enough c l b s n h ks y = each-along c l ks y s n (along-fresh c l b s n h)

  pub output-size : OutputSize hash
  output-size = record {
    always = λ c l b s n h ks y k z. enough-along c l (run_calls hash s n ks).state (run_calls hash s n ks).counts k z (along-list c l ks y s n (along-fresh c l b s n h));
  }
