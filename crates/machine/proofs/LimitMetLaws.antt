-- The limit that a call met is the one that its plan is turned down by, with the counts zero (`limit-event`, and with the link room in numbers `core-limit`), and none if its event is not read
-- (`begun-limit`). A call that is answered 13, with any counts and any output, has met a limit (`met-13`); and one that has met a limit is answered 13 with the counts zero (`limit-13`).
use Rattle.machine.proofs.Words.{ℕ, ◌^◌, ◌≤◌, ◌≡◌, refl, sym, ap, ◌∙◌, arith, true, false, List, eqb, length, drop, eq-eqb, if◌then◌else◌, Option, Some, None, Result, Ok, Err, true≢, identifier, Gossip, Received, event_value, SizedBehind, State, Counts, Room, whole_state, Outcome, refused, accepted, message_fits, state_after, state_of, head_in, Head}
use Rattle.postcard.specs.Message.{Event}
use Rattle.postcard.specs.Decode.{Decoded, decoded, faulty, message_part, decode_event}
use Rattle.postcard.proofs.DecodeFaults.{decode-faults}
use Rattle.wire.specs.declared.reader.event.Event.{Event as CodeEvent}
use Rattle.protocol.specs.State.{zero_counts}
use Rattle.protocol.specs.Handle.{count_message, one_payload, one_control}
use Rattle.protocol.specs.Answer.{Call, counts_below, counts_stay, outcome, answer_of, answer_block}
use Rattle.decide.proofs.StateAfterLaws.{decide-state}
use Rattle.steps.specs.Rooms.{rooms_in}
use Rattle.steps.specs.declared.call.Rooms.{Rooms}
use Rattle.whole.specs.Held.{held}
use Rattle.whole.proofs.HeldLaws.{Wholly}
use Rattle.machine.specs.Core.{begun, event_peer, event_size, core_rooms}
use Rattle.machine.specs.Decided.{size_fits, Planned, stop_limit, limit_found, answered, event_plan}
use Rattle.machine.specs.Limit.{limit_number, limit_told}
use Rattle.machine.specs.LimitMet.LimitMet.{limit_past, is13, asking, past_after, limit_of, limit_met}
use Rattle.machine.specs.declared.event.Stop.{Stop}
use Rattle.machine.specs.declared.event.Stop.TheVariants.{Refused, Past}
use Rattle.machine.specs.declared.limit.Limit.{Limit}
use Rattle.machine.proofs.CoreLaws.{answer-event, state-whole, begun-reads, begun-fault, core-rooms, part-fit, same-fit, Reads}
use Rattle.machine.proofs.LimitLaws.{limit-past}

-- the limit x, if the outcome is 13
limit_if : ℕ → Outcome → ℕ
limit_if x (refused n) = if eqb n 13 then x else 0
limit_if x (accepted s c bytes) = 0

-- the limit that a plan is turned down by
abbrev pub limit_in : Result Planned Stop → ℕ
limit_in (Ok p) = 0
limit_in (Err stop) = limit_told (stop_limit stop)

pub found-in : (x : Result Planned Stop) → limit_told (limit_found x) ≡ limit_in x
found-in (Ok p) = refl
found-in (Err stop) = refl

-- upon the state of a whole block
past_in : Option State → Call → ℕ
past_in None k = 0
past_in (Some s) k = past_after identifier s k (decode_event k.event)

limit-answer : (n : ℕ) (x : Option State) (k : Call) → limit_met identifier n x k ≡ limit_if (past_in (whole_state n x) k) (answer_block identifier n x zero_counts k)
unfolding limit_met limit_of answer_block answer_of limit_if past_in is13 outcome
limit-answer n x k = grind arith

-- an event that was not read is not answered 13
module _ (block : List ℕ) (now : ℕ) (bytes : List ℕ) where
  begun-other : (n : ℕ) → begun block now bytes ≡ faulty n → eqb n 13 ≡ false
  unfolding begun
  begun-other n e = grind (arith, e, decode-faults bytes)

  pub begun-limit : (n : ℕ) (rooms : List Room) → begun block now bytes ≡ faulty n → limit_met identifier (length block) (held block) (asking now bytes rooms) ≡ 0
  unfolding limit_if
  begun-limit n rooms e =
      limit-answer (length block) (held block) (asking now bytes rooms)
      ∙ ap (limit_if (past_in (whole_state (length block) (held block)) (asking now bytes rooms))) (begun-fault block now bytes n zero_counts (asking now bytes rooms) refl refl e)
      ∙ rw (begun-other n e) refl

-- the limit that a plan is turned down by is the one that the state after is past
limit-planned : (rooms : List Room) (now size : ℕ) (e : Event) (s : State) (c : Counts) (output : ℕ) →
    limit_if (limit_past (state_after identifier rooms now e s)) (answered output (event_plan identifier rooms now size e s c)) ≡ limit_in (event_plan identifier rooms now size e s c)
unfolding event_plan limit_if
limit-planned rooms now size e s c output = grind (arith, limit-past (state_after identifier rooms now e s))

-- of an event that was read
module _ (block : List ℕ) (w : Wholly block) where
  abbrev s : State
  s = state_of (head_in block) block

  pub limit-event : (k : Call) (e : Event) (size : ℕ) → k.now ≤ 2 ^ 62 → decode_event k.event ≡ decoded e → message_fits s.settings.max_message_size k.event e ≡ size_fits s.settings.max_message_size size e →
      limit_met identifier (length block) (held block) k ≡ limit_in (event_plan identifier k.rooms k.now size e s zero_counts)
  limit-event k e size l q fit =
      limit-answer (length block) (held block) k
      ∙ ap (limit_if _) (answer-event block w zero_counts k e size l q fit)
      ∙ ap (λ (x : ℕ). limit_if x (answered k.output (event_plan identifier k.rooms k.now size e s zero_counts))) past
      ∙ limit-planned k.rooms k.now size e s zero_counts k.output
    where
      past : past_in (whole_state (length block) (held block)) k ≡ limit_past (state_after identifier k.rooms k.now e s)
      past =
          ap (λ (x : Option State). past_in x k) (state-whole block w)
          ∙ (unfold past_in past_after in ap (past_after identifier s k) q ∙ ap limit_past (decide-state identifier k.now e s zero_counts k.rooms w.whole))

-- with the link room in numbers
pub core-limit : (block bytes : List ℕ) (rooms : Rooms) (g : Head) (now : ℕ) (e : CodeEvent) (p : ℕ) → Reads block now bytes (event_value e) → g ≡ head_in block → SizedBehind (drop 1 bytes) e → p ≡ event_peer e →
    limit_in (event_plan identifier (rooms_in (state_of g block) p rooms) now (event_size e) (event_value e) (state_of g block) zero_counts)
    ≡ limit_met identifier (length block) (held block) (asking now bytes (core_rooms block bytes rooms))
core-limit block bytes rooms g now e p r same sized q =
    ap (λ (x : Head). limit_in (event_plan identifier (rooms_in (state_of x block) p rooms) now (event_size e) (event_value e) (state_of x block) zero_counts)) same
    ∙ ap (λ (rs : List Room). limit_in (event_plan identifier rs now (event_size e) (event_value e) (state_of (head_in block) block) zero_counts)) (sym (core-rooms block bytes rooms e p r.means q))
    ∙ sym (limit-event block r.wholly (asking now bytes (core_rooms block bytes rooms)) (event_value e) (event_size e) r.early r.means (same-fit _ bytes e sized))

-- (11) counts of zero stay under 2^64
zero-stays : (e : Event) → counts_stay e zero_counts ≡ true
unfolding counts_stay counts_below count_message one_payload one_control zero_counts
zero-stays (Received p (Gossip id content d)) = refl
zero-stays (Received p m) = refl
zero-stays e = refl

-- the number of an answer
number : Outcome → ℕ
number (refused n) = n
number (accepted s c bytes) = 0

is_number : (l : Limit) → limit_number l ≡ 0 → ⊥
is_number l z = grind (arith, z)

module _ (output : ℕ) where
  -- a plan that 13 is answered of, with any counts, is turned down by a limit with the counts zero
  plan-met : (rooms : List Room) (now size : ℕ) (e : Event) (s : State) (c : Counts) → answered output (event_plan identifier rooms now size e s c) ≡ refused 13 → limit_in (event_plan identifier rooms now size e s zero_counts) ≡ 0 → ⊥
  unfolding event_plan number
  plan-met rooms now size e s c a z = grind (arith, ap number a, z, zero-stays e, is_number)

  -- and a plan that is turned down by a limit is answered 13
  plan-13 : (v : Result Planned Stop) → (limit_in v ≡ 0 → ⊥) → answered output v ≡ refused 13
  plan-13 (Ok p) z = absurd (z refl)
  plan-13 (Err (Refused r)) z = absurd (z refl)
  plan-13 (Err (Past l)) z = refl

module _ (block : List ℕ) (k : Call) where
  abbrev met : ℕ
  met = limit_met identifier (length block) (held block) (asking k.now k.event k.rooms)

  abbrev size : ℕ
  size = length (message_part k.event)

  met-event : (e : Event) → Reads block k.now k.event e → met ≡ limit_in (event_plan identifier k.rooms k.now size e (state_of (head_in block) block) zero_counts)
  met-event e r = limit-event block r.wholly (asking k.now k.event k.rooms) e size r.early r.means (part-fit _ k.event e)

  answer-read : (c : Counts) (e : Event) → Reads block k.now k.event e → answer_block identifier (length block) (held block) c k ≡ answered k.output (event_plan identifier k.rooms k.now size e (state_of (head_in block) block) c)
  answer-read c e r = answer-event block r.wholly c k e size r.early r.means (part-fit _ k.event e)

  pub met-13 : (c : Counts) → answer_block identifier (length block) (held block) c k ≡ refused 13 → met ≡ 0 → ⊥
  met-13 c a z = on (begun block k.now k.event) refl
    where
      on : (d : Decoded Event) → begun block k.now k.event ≡ d → ⊥
      on (faulty n) b =
          let q : n ≡ 13 = unfold number in ap number (sym (begun-fault block k.now k.event n c k refl refl b) ∙ a) in
          true≢ (sym (begun-other block k.now k.event n b) ∙ eq-eqb n 13 q)
      on (decoded e) b =
          let r = begun-reads block k.now k.event e b in
          plan-met k.output k.rooms k.now size e (state_of (head_in block) block) c (sym (answer-read c e r) ∙ a) (sym (met-event e r) ∙ z)

  pub limit-13 : (met ≡ 0 → ⊥) → answer_block identifier (length block) (held block) zero_counts k ≡ refused 13
  limit-13 z = on (begun block k.now k.event) refl
    where
      on : (d : Decoded Event) → begun block k.now k.event ≡ d → answer_block identifier (length block) (held block) zero_counts k ≡ refused 13
      on (faulty n) b = absurd (z (begun-limit block k.now k.event n k.rooms b))
      on (decoded e) b =
          let r = begun-reads block k.now k.event e b in
          answer-read zero_counts e r ∙ plan-13 k.output _ (λ q. z (met-event e r ∙ q))
