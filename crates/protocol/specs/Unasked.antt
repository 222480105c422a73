-- "Some links must never carry unasked payload": a quiet neighbour is sent a payload only by a call whose event is its Graft for it.
-- Assumes nothing.
use Rattle.std.specs.Prelude.{ℕ, ◌≡◌, true, List, ◌∷◌, ◌++◌, Some}
use Rattle.postcard.specs.Message.{Delivery, Message, Gossip, Graft, Event, Received}
use Rattle.protocol.specs.Links.{quiet_in}
use Rattle.protocol.specs.State.{State, Counts, Settings, Limits, created, create}
use Rattle.protocol.specs.Run.{Run}
use Rattle.protocol.specs.Answer.{Call, Answer, accept}
use Rattle.protocol.specs.Calls.{run_calls}
use Rattle.protocol.specs.ReadingsFollowTheTree.{payloads_to}
use Rattle.protocol.specs.Quiet.{told_quiet}

-- the event is a Graft of this peer, and the payload is of the message that it names
pub record AskedFor (p : ℕ) (e : Event) (m : Message) : Type 0 where
  pub id : ℕ
  pub round : ℕ
  pub content : List ℕ
  pub delivery : Delivery
  pub graft : e ≡ Received p (Graft (Some id) round)
  pub payload : m ≡ Gossip id content delivery

-- of an accepted call: each payload that it sends to this peer, taken or handed back, is asked for by its event
pub record OnlyAsked (p : ℕ) (e : Event) (r : Run) : Type 0 where
  pub asked : (m : Message) (before after : List Message) → payloads_to p r.actions ≡ before ++ (m ∷ after) → AskedFor p e m

-- of the answers to a list of calls: so it is with each peer that the calls before leave quiet
pub record NeverUnasked (past : List Answer) : Type 0 where
  pub always : (p : ℕ) (before after : List Answer) (e : Event) (r : Run) → past ≡ before ++ (accept e r ∷ after) → told_quiet p before ≡ true → OnlyAsked p e r

-- of every list of event calls, refused ones too, from a fresh panel
pub record NoUnaskedPayload (hash : List ℕ → ℕ) : Type 0 where
  pub always : (c : Settings) (l : Limits) (block_length : ℕ) (s : State) (n : Counts) → create c l block_length ≡ created s n →
      (ks : List Call) → NeverUnasked (run_calls hash s n ks).answers
  -- "The quiet marks belong to the state": after it those are marked who were told quiet, and have neither gone down nor been told up by kind 3 since
  pub marks : (c : Settings) (l : Limits) (block_length : ℕ) (s : State) (n : Counts) → create c l block_length ≡ created s n →
      (ks : List Call) (p : ℕ) → quiet_in p (run_calls hash s n ks).state.links ≡ told_quiet p (run_calls hash s n ks).answers
