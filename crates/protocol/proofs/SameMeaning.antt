-- Only question 10 looks at an event's bytes once they are read (`same-meaning`).
-- Assumes nothing.
use Rattle.std.proofs.Common.{ℕ, ◌≡◌, refl, ap, ◌∙◌, Bool, true, false, ◌&&◌, List, leb, if◌then◌else◌, Option, Some, None}
use Rattle.storage.proofs.ListsLaws.Branches.{if-both}
use Rattle.postcard.specs.Message.{Event}
use Rattle.postcard.specs.Decode.{decoded, decode_event}
use Rattle.protocol.specs.State.{State, Settings, Counts}
use Rattle.protocol.specs.Whole.{whole, long_enough, whole_state}
use Rattle.protocol.specs.Run.{begin}
use Rattle.protocol.specs.Answer.{Call, Answer, message_fits, ask_of, ask_read, ask, ask_whole, outcome, answer_of, answer_block}
use Rattle.protocol.specs.Calls.{state_after, counts_after, Ran, prepend, run_calls}
use Rattle.protocol.specs.SameMeaning.{respelled, Respelled, none_left, as-it-is, another-spelling, SameMeaning}
use Rattle.protocol.proofs.Accepted.{ask-cases}
use Rattle.protocol.proofs.WholeKept.{kept-handle}
use Rattle.protocol.specs.declared.TheConstants.{LATEST}

module _ (hash : List ℕ → ℕ) (c : Counts) (k : Call) (bytes : List ℕ) (e : Event) (read : decode_event k.event ≡ decoded e) (read' : decode_event bytes ≡ decoded e) where
  -- upon a state
  same-ask : (s : State) → message_fits s.settings.max_message_size bytes e ≡ message_fits s.settings.max_message_size k.event e → ask hash s c (respelled bytes k) ≡ ask hash s c k
  unfolding ask ask_read ask_of
  same-ask s fit = if-both (leb k.now (LATEST.0)) (rw (read, read') (rw fit refl)) refl

  -- upon a block
  same_block : (block_length : ℕ) (held : Option State) → ((s : State) → held ≡ Some s → message_fits s.settings.max_message_size bytes e ≡ message_fits s.settings.max_message_size k.event e) →
      answer_of hash (whole_state block_length held) c (respelled bytes k) ≡ answer_of hash (whole_state block_length held) c k
  unfolding whole_state answer_of
  same_block block_length None fit = refl
  same_block block_length (Some s) fit = branch (long_enough block_length s && whole s)
    where
      branch : (b : Bool) → answer_of hash (if b then Some s else None) c (respelled bytes k) ≡ answer_of hash (if b then Some s else None) c k
      branch true = ap outcome (same-ask s (fit s refl))
      branch false = refl

module _ (hash : List ℕ → ℕ) where
  -- no call changes the settings
  after-settings : (s : State) (c : Counts) (k : Call) → (state_after s (ask_whole hash s c k)).settings ≡ s.settings
  unfolding state_after
  after-settings s c k = ask-cases hash s c k (λ a. (state_after s a).settings ≡ s.settings) (λ n. refl) (λ e a. (kept-handle hash k.now e (begin s c k.rooms)).settings)

  -- the run from an answer on
  from : State → Counts → List Call → Answer → Ran
  from s c ks a = prepend a (run_calls hash (state_after s a) (counts_after c a) ks)

  -- over a list
  same_runs : (M : ℕ) (ks ks' : List Call) → Respelled M ks ks' → (s : State) (c : Counts) → s.settings.max_message_size ≡ M → run_calls hash s c ks' ≡ run_calls hash s c ks
  unfolding run_calls from
  same_runs M ks ks' none_left s c m = refl
  same_runs M ks ks' (as-it-is k ls ls' r) s c m =
      ap (prepend (ask_whole hash s c k)) (same_runs M ls ls' r _ _ (ap (λ (x : Settings). x.max_message_size) (after-settings s c k) ∙ m))
  same_runs M ks ks' (another-spelling k bytes e ls ls' read read' fit r) s c m =
      ap (from s c ls') (same_whole (same-ask hash c k bytes e read read' s (rw m fit)))
      ∙ ap (prepend (ask_whole hash s c k)) (same_runs M ls ls' r _ _ (ap (λ (x : Settings). x.max_message_size) (after-settings s c k) ∙ m))
    where
      same_whole : ask hash s c (respelled bytes k) ≡ ask hash s c k → ask_whole hash s c (respelled bytes k) ≡ ask_whole hash s c k
      same_whole q = unfold ask_whole in if-both (whole s) q refl

pub same-meaning : (hash : List ℕ → ℕ) → SameMeaning hash
unfolding answer_block
same-meaning hash = record {
  calls = λ n held c k bytes e read read' fit. same_block hash c k bytes e read read' n held fit;
  lists = λ s c ks ks' r. same_runs hash s.settings.max_message_size ks ks' r s c refl;
}
