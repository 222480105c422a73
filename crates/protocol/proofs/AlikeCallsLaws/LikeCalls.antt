-- "the same list of events, times, link room and output space gives the same answers and actions": each call keeps two states that differ in the interleaving alone so, and no question sees the interleaving.
-- Assumes nothing.
use Rattle.std.proofs.Common.{ℕ, ◌≡◌, refl, sym, ap, subst, ◌∙◌, Bool, true, false, not, ◌&&◌, List, [], ◌∷◌, leb, eqb, length, if◌then◌else◌}
use Rattle.storage.specs.Lists.Base.{concat_map}
use Rattle.storage.proofs.ListsLaws.MapLaws.{true≢}
use Rattle.time_cache.specs.TimeCache.{Cache, holds}
use Rattle.postcard.specs.Message.{Message, Gossip, Prune, Graft, IHave, Event, Received, Broadcast, Fired, Up, Down, Action, action_bytes}
use Rattle.postcard.specs.Decode.{Decoded, decoded, faulty, decode_event}
use Rattle.protocol.specs.State.{State, Settings, Counts}
use Rattle.protocol.specs.Run.{Run, begin}
use Rattle.protocol.specs.Handle.{first_event}
use Rattle.protocol.specs.Whole.{fits, content_held, whole}
use Rattle.protocol.specs.Answer.{Call, Answer, refuse, accept, message_fits, counts_stay, last_round, too_far, too_far_message, output_of, last_two, ask_of, ask_read, ask, ask_whole}
use Rattle.protocol.specs.Calls.{run_calls, state_after, counts_after, prepend}
use Rattle.protocol.proofs.NeverFive.{never-five}
use Rattle.protocol.specs.AlikeCalls.Peerwise.{Like, like, LikeStates}
use Rattle.protocol.specs.AlikeCalls.CommissioningSheet.{number_of, actions_of, SameAfter, CommissioningSheet}
use Rattle.protocol.proofs.AlikeCallsLaws.PeerLaws.{peerwise-length}
use Rattle.protocol.proofs.AlikeCallsLaws.LikeSteps.{like-first_event, like-handle}
use Rattle.protocol.proofs.AlikeCallsLaws.Reflect.{alike-like}
use Rattle.protocol.proofs.AlikeCallsLaws.Stay.{like-alike}
use Rattle.protocol.specs.declared.TheConstants.{LATEST}

-- what two such runs have the same

states-like : {a b : Run} → Like a b → LikeStates a.state b.state
states-like (like r q d q' d' e f) = λ c rooms. like (begin r.state c rooms) q d q' d' e f

actions-same : {a b : Run} → Like a b → a.actions ≡ b.actions
actions-same (like r q d q' d' e f) = refl

counts_same : {a b : Run} → Like a b → a.counts ≡ b.counts
counts_same (like r q d q' d' e f) = refl

settings-same : {a b : Run} → Like a b → a.state.settings ≡ b.state.settings
settings-same (like r q d q' d' e f) = refl

received-same : {a b : Run} → Like a b → a.state.received ≡ b.state.received
received-same (like r q d q' d' e f) = refl

fits-same : {a b : Run} → Like a b → fits a.state ≡ fits b.state
unfolding fits content_held
fits-same (like r q d q' d' e f) = rw (peerwise-length q q' e, peerwise-length d d' f)

-- both refused with one number, or both accepted
data LikeAnswers : Answer → Answer → Type 0 where
  both-refuse : (n : ℕ) → LikeAnswers (refuse n) (refuse n)
  both-accept : (e : Event) (a b : Run) → Like a b → LikeAnswers (accept e a) (accept e b)

-- a question that both answer the same
like-question : {x y u v : Answer} (t t' : Bool) → t ≡ t' → LikeAnswers x u → LikeAnswers y v → LikeAnswers (if t then x else y) (if t' then u else v)
like-question true true e l m = l
like-question false false e l m = m
like-question true false e l m = true≢ (sym e)
like-question false true e l m = true≢ e

like-last_two : {a b : Run} (output : ℕ) (e : Event) → Like a b → LikeAnswers (last_two output e a) (last_two output e b)
unfolding last_two output_of
like-last_two {a} {b} output e l =
    like-question (fits a.state) (fits b.state) (fits-same l)
    (like-question (leb (length (output_of a)) output) (leb (length (output_of b)) output) (ap (λ (xs : List Action). leb (length (concat_map action_bytes xs)) output) (actions-same l))
    (both-accept e a b l) (both-refuse 14))
    (both-refuse 13)

module _ (hash : List ℕ → ℕ) where
  too_far_message-same : (m : Message) (s t : State) → s.received ≡ t.received → too_far_message hash m s ≡ too_far_message hash m t
  unfolding too_far_message
  too_far_message-same (Gossip id content d) s t e = ap (λ (c : Cache (Unit {0})). eqb (hash content) id && last_round d && not (holds id c)) e
  too_far_message-same Prune s t e = refl
  too_far_message-same (Graft wanted round) s t e = refl
  too_far_message-same (IHave hs) s t e = refl

  too_far-same : (v : Event) (s t : State) → s.received ≡ t.received → too_far hash v s ≡ too_far hash v t
  unfolding too_far
  too_far-same (Received p m) s t e = too_far_message-same m s t e
  too_far-same (Broadcast content) s t e = refl
  too_far-same (Fired x) s t e = refl
  too_far-same (Up as_quiet p) s t e = refl
  too_far-same (Down p) s t e = refl

  like-ask_of : (s t : State) (c : Counts) (k : Call) (v : Event) → LikeStates s t → LikeAnswers (ask_of hash s c k v) (ask_of hash t c k v)
  unfolding ask_of
  like-ask_of s t c k v l =
      let m = l c k.rooms in
      like-question (not (message_fits s.settings.max_message_size k.event v)) (not (message_fits t.settings.max_message_size k.event v))
      (ap (λ (x : Settings). not (message_fits x.max_message_size k.event v)) (settings-same m)) (both-refuse 10)
      (like-question (not (counts_stay v c)) (not (counts_stay v c)) refl (both-refuse 11)
      (like-question (too_far hash v (first_event k.now (begin s c k.rooms)).state) (too_far hash v (first_event k.now (begin t c k.rooms)).state)
      (too_far-same v _ _ (received-same (like-first_event k.now m))) (both-refuse 12)
      (like-last_two k.output v (like-handle hash k.now v m))))

  like-ask_read : (s t : State) (c : Counts) (k : Call) (d : Decoded Event) → LikeStates s t → LikeAnswers (ask_read hash s c k d) (ask_read hash t c k d)
  unfolding ask_read
  like-ask_read s t c k (faulty n) l = both-refuse n
  like-ask_read s t c k (decoded v) l = like-ask_of s t c k v l

  like-ask : (s t : State) (c : Counts) (k : Call) → LikeStates s t → LikeAnswers (ask hash s c k) (ask hash t c k)
  unfolding ask
  like-ask s t c k l = like-question (leb k.now (LATEST.0)) (leb k.now (LATEST.0)) refl (like-ask_read s t c k (decode_event k.event) l) (both-refuse 6)

  like-ask_whole : (s t : State) (c : Counts) (k : Call) → whole s ≡ true → whole t ≡ true → LikeStates s t → LikeAnswers (ask_whole hash s c k) (ask_whole hash t c k)
  unfolding ask_whole
  like-ask_whole s t c k w x l = like-question (whole s) (whole t) (w ∙ sym x) (like-ask s t c k l) (both-refuse 5)

  -- an accepted call leaves a whole state
  whole-after : (s : State) (c : Counts) (k : Call) → whole s ≡ true → whole (state_after s (ask_whole hash s c k)) ≡ true
  unfolding run_calls prepend
  whole-after s c k w = (never-five hash s c (k ∷ []) w).1

  -- after one call
  record LikeAfter (s t : State) (c : Counts) (a b : Answer) : Type 0 where
    number : number_of a ≡ number_of b
    actions : actions_of a ≡ actions_of b
    counts : counts_after c a ≡ counts_after c b
    states : LikeStates (state_after s a) (state_after t b)

  like-after : (s t : State) (c : Counts) (a b : Answer) → LikeStates s t → LikeAnswers a b → LikeAfter s t c a b
  unfolding number_of actions_of state_after counts_after
  like-after s t c _ _ l (both-refuse n) = record { number = refl; actions = refl; counts = refl; states = l }
  like-after s t c _ _ l (both-accept e a b m) = record { number = refl; actions = actions-same m; counts = counts_same m; states = states-like m }

  -- after a list
  same_after : (s t : State) (c : Counts) → whole s ≡ true → whole t ≡ true → LikeStates s t → (ks : List Call) → SameAfter (run_calls hash s c ks) (run_calls hash t c ks)
  unfolding run_calls prepend
  same_after s t c w x l [] = record { numbers = refl; actions = refl; counts = refl; first = w; second = x; states = like-alike s t l }
  same_after s t c w x l (k ∷ ks) =
      let a = ask_whole hash s c k in
      let b = ask_whole hash t c k in
      let y = like-after s t c a b l (like-ask_whole s t c k w x l) in
      let z = subst (λ (d : Counts). SameAfter (run_calls hash (state_after s a) (counts_after c a) ks) (run_calls hash (state_after t b) d ks)) y.counts
      (same_after (state_after s a) (state_after t b) (counts_after c a) (whole-after s c k w) (whole-after t c k x) y.states ks) in
      record { numbers = rw (y.number, z.numbers); actions = rw (y.actions, z.actions); counts = z.counts; first = z.first; second = z.second; states = z.states }

  pub commissioning-sheet : CommissioningSheet hash
  commissioning-sheet = record {
    always = λ s t c d w x h e ks. subst (λ (n : Counts). SameAfter (run_calls hash s c ks) (run_calls hash t n ks)) e (same_after s t c w x (alike-like s t h) ks);
  }
