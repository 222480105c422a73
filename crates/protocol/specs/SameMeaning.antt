-- "Padded numbers", "What panels write is as before": two spellings of one event lead to the same answer, actions, counts and state, unless question 10 takes one of them and not the other.
-- Assumes nothing.
use Rattle.std.specs.Prelude.{ℕ, ◌≡◌, List, [], ◌∷◌, Option, Some}
use Rattle.postcard.specs.Message.{Event}
use Rattle.postcard.specs.Decode.{decoded, decode_event}
use Rattle.protocol.specs.State.{State, Counts}
use Rattle.protocol.specs.Answer.{Call, message_fits, answer_block}
use Rattle.protocol.specs.Calls.{run_calls}

-- the call with other bytes for its event
abbrev pub respelled : List ℕ → Call → Call
respelled bytes k = record { now = k.now; event = bytes; rooms = k.rooms; output = k.output }

-- the same calls, events in other spellings among them, where question 10 takes both spellings or neither for this M
pub data Respelled (M : ℕ) : List Call → List Call → Type 0 where
  none_left : Respelled M [] []
  as-it-is : (k : Call) (ks ks' : List Call) → Respelled M ks ks' → Respelled M (k ∷ ks) (k ∷ ks')
  another-spelling : (k : Call) (bytes : List ℕ) (e : Event) (ks ks' : List Call) → decode_event k.event ≡ decoded e → decode_event bytes ≡ decoded e →
      message_fits M bytes e ≡ message_fits M k.event e → Respelled M ks ks' → Respelled M (k ∷ ks) (respelled bytes k ∷ ks')

-- of every call upon every block, and of every list of calls
pub record SameMeaning (hash : List ℕ → ℕ) : Type 0 where
  pub calls : (block_length : ℕ) (held : Option State) (c : Counts) (k : Call) (bytes : List ℕ) (e : Event) → decode_event k.event ≡ decoded e → decode_event bytes ≡ decoded e →
      ((s : State) → held ≡ Some s → message_fits s.settings.max_message_size bytes e ≡ message_fits s.settings.max_message_size k.event e) →
      answer_block hash block_length held c (respelled bytes k) ≡ answer_block hash block_length held c k
  pub lists : (s : State) (c : Counts) (ks ks' : List Call) → Respelled s.settings.max_message_size ks ks' → run_calls hash s c ks' ≡ run_calls hash s c ks
