-- The numbers that a creation and an event call answer, and the length of a refused call's output.
use Rattle.std.proofs.Common.{Option, Some, None, ℕ, ◌≡◌, ◌≤◌, ◌<◌, ◌⊎◌, inl, inr, sym, ap, subst, ◌∙◌, lit≤, Bool, true, false, not, ◌&&◌, ◌||◌, if◌then◌else◌, eqb, ◌≢◌, ◌^◌, List, leb, length, arith, leb-true, eqb-true}
use Rattle.storage.proofs.ListsLaws.MapLaws.{cases, and_right}
use Rattle.blake3.specs.Blake3.{identifier}
use Rattle.postcard.specs.Message.{Event}
use Rattle.postcard.specs.Decode.{Decoded, decoded, faulty, decode_event}
use Rattle.postcard.proofs.DecodeFaults.{event_fault, decode-faults}
use Rattle.protocol.specs.State.{State, Counts, Created, created, not_created, create, size_in_range, durations_in_range, limits_in_range, block_need, Settings, Limits}
use Rattle.protocol.specs.Run.{Run, begin}
use Rattle.protocol.specs.Handle.{first_event, handle}
use Rattle.protocol.specs.Whole.{fits, whole_state}
use Rattle.protocol.specs.Answer.{Call, Answer, refuse, accept, Outcome, refused, accepted, message_fits, counts_stay, output_of, last_two, too_far, ask_of, ask_read, ask, outcome, answer_of, answer_block}
use Rattle.block.specs.View.{settings_of, limits_of}
use Rattle.block.specs.declared.head.Settings.{Settings as HeadSettings}
use Rattle.block.specs.declared.head.Limits.{Limits as HeadLimits}
use Rattle.whole.specs.Creation.{Creates}
use Rattle.refusal.specs.declared.Refusal.{Refusal}
use Rattle.refusal.specs.Numbers.{number_of}
use Rattle.refusal.specs.declared.Refusal.TheVariants.{MessageSizeOutOfRange, DurationTooLong, LimitOutOfRange, BlockTooShort, BlockNotWhole, TimeTooLate, EventCut, EventMalformed, EventTooLong, MessageTooLong, CountsFull, NoMoreHops, LimitReached, OutputTooShort, NameNotKept, NamesFull, AreaNotWhole, NeighborsBroadcast}
use Rattle.machine.specs.Called.{Lent, Called, Finds}
use Rattle.plumtree.specs.Calls.{Made}

-- either branch
both : {A : Type 0} (P : A → Type 0) (b : Bool) {x y : A} → P x → P y → P (if b then x else y)
both P true p q = p
both P false p q = q

-- each question has a number up to 17, or 23
abbrev pub IsNumber : ℕ → Type 0
IsNumber n = (n ≤ 17) ⊎ (n ≡ 23)

abbrev Unknown : ℕ → Type 0
Unknown n = (n ≡ 0) ⊎ ((17 < n) × (n ≢ 23))

Low : Answer → Type 0
Low (refuse n) = IsNumber n
Low (accept e r) = Unit {0}

LowOutcome : Outcome → Type 0
LowOutcome (refused n) = IsNumber n
LowOutcome (accepted s c bytes) = Unit {0}

low-two : (output : ℕ) (e : Event) (r : Run) → Low (last_two output e r)
unfolding last_two Low
low-two output e r = both Low (fits r.state) (both Low (leb (length (output_of r)) output) tt (inl (lit≤ tt))) (inl (lit≤ tt))

low-of : (s : State) (c : Counts) (k : Call) (e : Event) → Low (ask_of identifier s c k e)
unfolding ask_of Low
low-of s c k e =
    both Low (not (message_fits s.settings.max_message_size k.event e)) (inl (lit≤ tt))
    (both Low (not (counts_stay e c)) (inl (lit≤ tt))
    (both Low (too_far identifier e (first_event k.now (begin s c k.rooms)).state) (inl (lit≤ tt))
    (low-two k.output e (handle identifier k.now e (begin s c k.rooms)))))

low-fault : (n : ℕ) → event_fault (faulty n) ≡ true → IsNumber n
low-fault n f =
    cases (eqb n 23)
    (λ e. inr (eqb-true n 23 e))
    (λ e. let z : leb 7 n && leb n 9 || false ≡ true = rw e at f in inl (omega (arith, leb-true n 9 (and_right (leb 7 n) (leb n 9) (or-no _ z)))))
  where
    or-no : (b : Bool) → b || false ≡ true → b ≡ true
    or-no true h = h
    or-no false h = h

low-read : (s : State) (c : Counts) (k : Call) (d : Decoded Event) → event_fault d ≡ true → Low (ask_read identifier s c k d)
unfolding ask_read Low
low-read s c k (faulty n) f = low-fault n f
low-read s c k (decoded e) f = low-of s c k e

low-ask : (s : State) (c : Counts) (k : Call) → Low (ask identifier s c k)
unfolding ask Low
low-ask s c k = both Low (leb k.now (2 ^ 62)) (low-read s c k (decode_event k.event) (decode-faults k.event)) (inl (lit≤ tt))

low-outcome : (a : Answer) → Low a → LowOutcome (outcome a)
unfolding outcome Low LowOutcome
low-outcome (refuse n) h = h
low-outcome (accept e r) h = tt

low-answer : (h : Option State) (c : Counts) (k : Call) → LowOutcome (answer_of identifier h c k)
unfolding answer_of LowOutcome
low-answer None c k = inl (lit≤ tt)
low-answer (Some s) c k = low-outcome (ask identifier s c k) (low-ask s c k)

low-block : (long : ℕ) (h : Option State) (c : Counts) (k : Call) → LowOutcome (answer_block identifier long h c k)
unfolding answer_block
low-block long h c k = low-answer (whole_state long h) c k

-- what an event call answers: a question's number or 0, no output with a number other than 0, and none longer than what was lent
pub record Answered (before : Lent) (number long : ℕ) : Type 0 where
  pub low : IsNumber number
  pub empty : (number ≡ 0 → ⊥) → long ≡ 0
  pub inside : long ≤ length before.output

numbered : {n number : ℕ} → IsNumber n → number ≡ n → IsNumber number
numbered h e = rw e h

finds-answered : (o : Outcome) → LowOutcome o → (before after : Lent) (number long : ℕ) → Finds o before after number long → Answered before number long
unfolding LowOutcome
finds-answered (refused n) h before after number long f = record { low = numbered h f.number; empty = λ ne. f.long; inside = omega (arith, f.long) }
finds-answered (accepted s c bytes) h before after number long f = record { low = inl (omega (arith, f.number)); empty = λ ne. absurd (ne f.number); inside = omega (arith, f.long, f.fits) }

pub called-answered : {k : Call} {before after : Lent} {number long : ℕ} → Called k before after number long → Answered before number long
called-answered {k} {before} {after} {number} {long} f = finds-answered _ (low-block (length before.block) _ before.counts k) before after number long f.finds

-- none of the questions: 0
pub accepted_number : (number : ℕ) → IsNumber number → Unknown number → number ≡ 0
accepted_number number low (inl e) = e
accepted_number number (inl low) (inr h) = absurd (omega (arith, low, h.0))
accepted_number number (inr e) (inr h) = absurd (h.1 e)

-- what a creation answers
LowCreated : Created → Type 0
LowCreated (not_created n) = IsNumber n
LowCreated (created s c) = Unit {0}

low-create : (c : Settings) (l : Limits) (long : ℕ) → LowCreated (create c l long)
unfolding create LowCreated
low-create c l long =
    both LowCreated (size_in_range c)
    (both LowCreated (durations_in_range c)
    (both LowCreated (limits_in_range l)
    (both LowCreated (leb (block_need l) long) tt (inl (lit≤ tt))) (inl (lit≤ tt))) (inl (lit≤ tt))) (inl (lit≤ tt))

creates-low : (q : Created) → LowCreated q → (before after : List ℕ) (number : ℕ) → Creates q before after number → IsNumber number
unfolding LowCreated
creates-low (not_created n) h before after number f = numbered h f.number
creates-low (created s c) h before after number f = inl (omega (arith, f.number))

creates-refused : (q : Created) (before after : List ℕ) (number : ℕ) → Creates q before after number → (number ≡ 0 → ⊥) → q ≡ not_created number
creates-refused (not_created n) before after number f ne = ap not_created (sym f.number)
creates-refused (created s c) before after number f ne = absurd (ne f.number)

pub made-low : (c : HeadSettings) (l : HeadLimits) (block : List ℕ) (counts : Counts) (block' : List ℕ) (counts' : Counts) (number long : ℕ) → Made c l block counts block' counts' number long → IsNumber number
made-low c l block counts block' counts' number long m = creates-low _ (low-create (settings_of c) (limits_of l) (length block)) block block' number m.creation

-- an event call that is answered no question's number is answered 0
pub called-accepted : {k : Call} {before after : Lent} {number long : ℕ} → Called k before after number long → Unknown number → Called k before after 0 long
called-accepted {k} {before} {after} {number} {long} f o = subst (λ (n : ℕ). Called k before after n long) (accepted_number number (called-answered f).low o) f

-- by other names
pub made-as : {c : HeadSettings} {l : HeadLimits} {block : List ℕ} {counts : Counts} {block' : List ℕ} {counts' : Counts} {number long number' long' : ℕ} → number ≡ number' → long ≡ long' → Made c l block counts block' counts' number long
    → Made c l block counts block' counts' number' long'
made-as {c} {l} {block} {counts} {block'} {counts'} {number} {long} {number'} {long'} p q m =
    subst (λ (n : ℕ). Made c l block counts block' counts' n long') p (subst (λ (n : ℕ). Made c l block counts block' counts' number n) q m)

-- likewise a creation, whose output has no bytes
pub made-accepted : {c : HeadSettings} {l : HeadLimits} {block : List ℕ} {counts : Counts} {block' : List ℕ} {counts' : Counts} {number long : ℕ} → Made c l block counts block' counts' number long
    → Unknown number → Made c l block counts block' counts' 0 0
made-accepted {c} {l} {block} {counts} {block'} {counts'} {number} {long} m o =
    made-as (accepted_number number (made-low c l block counts block' counts' number long m) o) m.long m

-- a refusal's number is a question's
some_question : (r : Refusal) → number_of r ≡ 0 → ⊥
some_question MessageSizeOutOfRange e = omega (arith, e)
some_question DurationTooLong e = omega (arith, e)
some_question LimitOutOfRange e = omega (arith, e)
some_question BlockTooShort e = omega (arith, e)
some_question BlockNotWhole e = omega (arith, e)
some_question TimeTooLate e = omega (arith, e)
some_question EventCut e = omega (arith, e)
some_question EventMalformed e = omega (arith, e)
some_question EventTooLong e = omega (arith, e)
some_question MessageTooLong e = omega (arith, e)
some_question CountsFull e = omega (arith, e)
some_question NoMoreHops e = omega (arith, e)
some_question LimitReached e = omega (arith, e)
some_question OutputTooShort e = omega (arith, e)
some_question NameNotKept e = omega (arith, e)
some_question NamesFull e = omega (arith, e)
some_question AreaNotWhole e = omega (arith, e)
some_question NeighborsBroadcast e = omega (arith, e)

-- a creation that is answered a question's number leaves the block as it was
creates-untouched : (q : Created) (before after : List ℕ) (number : ℕ) → Creates q before after number → (number ≡ 0 → ⊥) → after ≡ before
creates-untouched (not_created n) before after number f ne = f.block
creates-untouched (created s c) before after number f ne = absurd (ne f.number)

pub made-untouched : (c : HeadSettings) (l : HeadLimits) (block : List ℕ) (counts : Counts) (block' : List ℕ) (counts' : Counts) {number long : ℕ} (r : Refusal) → number_of r ≡ number
    → Made c l block counts block' counts' number long → block' ≡ block
made-untouched c l block counts block' counts' {number} {long} r e m = creates-untouched _ block block' number m.creation (λ z. some_question r (e ∙ z))
