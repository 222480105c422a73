-- What the questions find, and what an accepted call leaves.
use Rattle.machine.proofs.Words.{Option, Some, Err, Ok, ◌≡◌, ℕ, suc, max, ◌+◌, ◌^◌, ◌≤◌, ◌<◌, refl, sym, ap, ◌∙◌, arith, Bool, true, false, ◌&&◌, List, [], length, ltb, le-leb, leb-true, lt-ltb, le-ltb, ltb-true, ltb-false, lt-leb, cases, and_intro, identifier, Received, Up, Down, message_value, link_up, State, Counts, Settings, Limits, limits_in_range, block_need, zero_counts, Room, begin, fits, whole, counts_below, limits_of, Sound, Stored, linked, Head, AtRest, shown}
use native.Mathlib.Nat.{max-eq_left, max-eq_right}
use Rattle.refusal.specs.declared.Refusal.TheVariants.{MessageTooLong, CountsFull}
use Rattle.storage.specs.Lists.Base.{concat_map}
use Rattle.postcard.specs.Message as message
use Rattle.postcard.specs.Message.{Event}
use Rattle.wire.specs.declared.reader.message.Message.{Message}
use Rattle.wire.specs.declared.reader.message.Message.TheVariants as messages
use Rattle.protocol.specs.Neighbours.{forget_peer, on_neighbor_down}
use Rattle.protocol.specs.Handle.{count_message}
use Rattle.protocol.specs.Answer.{counts_stay}
use Rattle.block.specs.View.{state_of}
use Rattle.decide.specs.Sizes.{sizes_of, fit_sizes}
use Rattle.decide.specs.Settled.{too_far_before}
use Rattle.decide.proofs.SizesAfter.{down_sizes}
use Rattle.decide.specs.ActionsAfter.{actions_after}
use Rattle.decide.specs.StateAfter.{state_after}
use Rattle.decide.proofs.TableSizes.{fits-sizes}
use Rattle.decide.proofs.UpDownEvict.{down-sizes}
use Rattle.steps.specs.Shared.{sizes_value}
use Rattle.steps.specs.declared.Sizes.{Sizes as CodeSizes}
use Rattle.block.specs.declared.panel.View.{View}
use Rattle.steps.proofs.SettledLaws.FewLaws.{fit-down, rest-whole}
use Rattle.machine.specs.Core.{is_payload, counted_as}
use Rattle.machine.specs.Decided.{size_fits, unless, event_plan}
use Rattle.decide.specs.Counted.{raised, counts_after_call}
use Rattle.machine.specs.Kinds.Meaning.{counted_for}
use Rattle.machine.specs.Limit.{first_limit, state_limit}
use Rattle.machine.specs.declared.event.Stop.TheVariants.{Refused}
use Rattle.machine.specs.declared.limit.Limit.{Limit}
use Rattle.machine.specs.Steps.{Keeps}
use Rattle.machine.proofs.LimitLaws.{fits-none}
use Rattle.machine.proofs.HoldsLaws.{stored-holds}
use Rattle.whole.specs.Held.{held}

-- "largest r + 1"
pub raise-not : (round : ℕ) (c : Counts) → round < c.hops → c ≡ raised (suc round) c
unfolding raised
raise-not round c h = sym (λ k. record { payload = c.payload; control = c.control; hops = max-eq_left {n = c.hops} {m = suc round} (omega (arith, h)) k })

pub raise-up : (round : ℕ) (c : Counts) → c.hops ≤ round → record { payload = c.payload; control = c.control; hops = round + 1 } ≡ raised (suc round) c
unfolding raised
raise-up round c h =
    let e : round + 1 ≡ max c.hops (suc round) = (let q : round + 1 ≡ suc round = omega arith in q ∙ sym (max-eq_right {n = c.hops} {m = suc round} (omega (arith, h)))) in
    λ k. record { payload = c.payload; control = c.control; hops = e k }

-- what a view shows is whole, and its limits are the header's
pub limits-of : (v : View) → (shown v).limits ≡ limits_of v.head.now.limits
unfolding state_of
limits-of v = refl

pub max-of : (v : View) → (shown v).settings.max_message_size ≡ v.head.now.settings.max_message_size
unfolding state_of
max-of v = refl

pub shown-whole : (v : View) → AtRest (shown v) → whole (shown v) ≡ true
shown-whole v rest = rest-whole v.head.now v.block.now v.sound rest

-- (13) the limit that the code found, of a state with the same limits
pub limited : (v : View) (t : State) (z : CodeSizes) (o : Option Limit) → t.limits ≡ (shown v).limits → sizes_value z ≡ sizes_of t → o ≡ first_limit (limits_of v.head.now.limits) (sizes_value z) → o ≡ state_limit t
limited v t z o same e f =
    f ∙ ap (first_limit (limits_of v.head.now.limits)) e
    ∙ ap (λ (l : Limits). first_limit l (sizes_of t)) (sym (same ∙ limits-of v))

-- a neighbour down
pub down-keeps : (p : ℕ) (s : State) → Keeps s (forget_peer p s)
unfolding forget_peer
down-keeps p s = record { limits = refl; settings = refl }

down-sized : (p : ℕ) (s : State) → AtRest s → sizes_of (forget_peer p s) ≡ down_sizes p s
unfolding on_neighbor_down
down-sized p s rest = down-sizes p (begin s zero_counts []) rest.consistent.core.links_up

-- nothing grows
pub down_fits : (p : ℕ) (v : View) → AtRest (shown v) → fits (forget_peer p (shown v)) ≡ true
down_fits p v rest =
    let s = shown v in
    fits-sizes (forget_peer p s)
    ∙ ap (λ (l : Limits). fit_sizes l (sizes_of (forget_peer p s))) ((down-keeps p s).limits ∙ limits-of v)
    ∙ ap (fit_sizes (limits_of v.head.now.limits)) (down-sized p s rest)
    ∙ fit-down p v.head.now v.block.now v.sound

module _ (rooms : List Room) (now p : ℕ) (s : State) (c : Counts) where
  pub up-planned : (as_quiet : Bool) (o : Option Limit) → o ≡ state_limit (linked (link_up as_quiet p) s) → unless o (record { state = linked (link_up as_quiet p) s; counts = c; bytes = [] }) ≡ event_plan identifier rooms now 0 (Up as_quiet p) s c
  unfolding event_plan size_fits counts_stay too_far_before actions_after state_after counts_after_call concat_map
  up-planned as_quiet o e = ap (λ (x : Option Limit). unless x (record { state = linked (link_up as_quiet p) s; counts = c; bytes = [] })) e

  pub down-planned : fits (forget_peer p s) ≡ true → Ok (record { state = forget_peer p s; counts = c; bytes = [] }) ≡ event_plan identifier rooms now 0 (Down p) s c
  unfolding event_plan size_fits counts_stay too_far_before actions_after state_after counts_after_call concat_map
  down-planned e = ap (λ (x : Option Limit). unless x (record { state = forget_peer p s; counts = c; bytes = [] })) (fits-none (forget_peer p s) e)

-- a message's counts
pub counted-message : (m : Message) (c : Counts) → counted_as (is_payload m) c ≡ count_message (message_value m) c
unfolding count_message
counted-message (messages.Gossip g) c = refl
counted-message messages.Prune c = refl
counted-message (messages.Graft g) c = refl
counted-message (messages.IHave ihaves) c = refl

pub message-counted : (peer : ℕ) (m : Message) (c : Counts) → counted_as (is_payload m) c ≡ counted_for (Received peer (message_value m)) c
unfolding counted_for
message-counted peer m c = counted-message m c

and_no : (b : Bool) → (b && false) ≡ false
and_no true = refl
and_no false = refl

pub stay-payload : (p q : ℕ) → q < 2 ^ 64 → ltb p 18446744073709551615 ≡ (ltb (p + 1) (2 ^ 64) && ltb q (2 ^ 64))
stay-payload p q h =
    cases (ltb p 18446744073709551615)
    (λ t. t ∙ sym (and_intro (lt-ltb (p + 1) (2 ^ 64) (omega (arith, ltb-true p 18446744073709551615 t))) (lt-ltb q (2 ^ 64) h)))
    (λ f. f ∙ sym (ap (λ (b : Bool). b && ltb q (2 ^ 64)) (le-ltb (p + 1) (2 ^ 64) (omega (arith, ltb-false p 18446744073709551615 f)))))

pub stay-control : (p q : ℕ) → p < 2 ^ 64 → ltb q 18446744073709551615 ≡ (ltb p (2 ^ 64) && ltb (q + 1) (2 ^ 64))
stay-control p q h =
    cases (ltb q 18446744073709551615)
    (λ t. t ∙ sym (and_intro (lt-ltb p (2 ^ 64) h) (lt-ltb (q + 1) (2 ^ 64) (omega (arith, ltb-true q 18446744073709551615 t)))))
    (λ f. f ∙ sym (ap (λ (b : Bool). ltb p (2 ^ 64) && b) (le-ltb (q + 1) (2 ^ 64) (omega (arith, ltb-false q 18446744073709551615 f))) ∙ and_no (ltb p (2 ^ 64))))

-- question 10, of a received message
module _ (s : State) (peer size : ℕ) (m : message.Message) where
  pub message-fits : size ≤ s.settings.max_message_size → size_fits s.settings.max_message_size size (Received peer m) ≡ true
  unfolding size_fits
  message-fits l = le-leb size s.settings.max_message_size l

  pub message-long : s.settings.max_message_size < size → size_fits s.settings.max_message_size size (Received peer m) ≡ false
  unfolding size_fits
  message-long l = lt-leb size s.settings.max_message_size l

-- a received message: questions 10 and 11
module _ (rooms : List Room) (now peer size : ℕ) (m : Message) (s : State) (c : Counts) where
  abbrev event : Event
  event = Received peer (message_value m)

  pub message-10 : s.settings.max_message_size < size → Err (Refused MessageTooLong) ≡ event_plan identifier rooms now size event s c
  unfolding event_plan
  message-10 l = rw (message-long s peer size (message_value m) l) refl

  pub message-stays : (b : Bool) → counts_below (counted_as (is_payload m) c) ≡ b → counts_stay event c ≡ b
  unfolding counts_stay
  message-stays b e = ap counts_below (sym (counted-message m c)) ∙ e

  pub message-11 : size ≤ s.settings.max_message_size → counts_below (counted_as (is_payload m) c) ≡ false → Err (Refused CountsFull) ≡ event_plan identifier rooms now size event s c
  unfolding event_plan
  message-11 l e = rw (message-fits s peer size (message_value m) l, message-stays false e) refl

-- the block holds the state that the panel held, once its header is stored
module _ (h : Head) (xs last : List ℕ) (sound : Sound h xs) (stored : Stored h xs last) (s : State) (rest : AtRest s) (keeps : Keeps s (state_of h xs)) (need : block_need s.limits ≤ length xs) where
  range : limits_in_range (limits_of h.limits) ≡ true
  unfolding state_of
  range = ap limits_in_range keeps.limits ∙ rest.ranged.limits

  long : block_need (limits_of h.limits) ≤ length xs
  unfolding state_of
  long = omega (arith, need, ap block_need keeps.limits)

  threshold : h.settings.config.optimization_threshold.0 < 65536
  unfolding state_of
  threshold =
      let e : h.settings.config.optimization_threshold.0 ≡ s.settings.optimization_threshold = ap (λ (x : Settings). x.optimization_threshold) keeps.settings in
      omega (arith, e, leb-true s.settings.optimization_threshold 65535 rest.ranged.threshold)

  pub left-holds : held last ≡ Some (state_of h xs)
  left-holds = stored-holds h xs last stored sound range long threshold
