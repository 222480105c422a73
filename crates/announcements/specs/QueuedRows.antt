-- Rows of the queue, and what is sent and noted of them.
-- Assumes nothing.
use Rattle.std.specs.Prelude.{ℕ, ◌<◌, ◌≤◌, ◌≡◌, Bool, true, not, ◌||◌, List, [], ◌∷◌, ◌++◌, map, length, All, eqb, if◌then◌else◌}
use Rattle.storage.specs.Lists.Base.{any}
use Rattle.postcard.specs.Message.{Ihave, IHave, AnnounceDropped, Action, Sent, Scheduled}
use Rattle.protocol.specs.State.{State, Note}
use Rattle.protocol.specs.Run.{Room}
use Rattle.protocol.specs.Ticks.{queued_for, queued_peers, per_message}
use Rattle.protocol.specs.declared.TheConstants.{ANNOUNCE_DROPPED_INTERVAL, MAX_DROPPED}
use Rattle.decide.specs.RecordGrowth.{cached_in, add_batches}
use Rattle.decide.specs.Settled.{settled}
use Rattle.decide.specs.StateAfter.{recorded_state}
use Rattle.decide.specs.Pieces.{Piece, piece_taken, dispatch_batches}
use Rattle.block.specs.LinkSteps.{peer_at}
use Rattle.steps.specs.Calls.{rooms_of}
use Rattle.block.specs.NoteSteps.{note_at}
use Rattle.steps.specs.declared.call.Call.{Call}

-- which identifiers are cached once a first event has evicted
abbrev pub held_then : ℕ → State → ℕ → Bool
held_then now s = cached_in (settled now s).cache

-- a note without its peer
abbrev pub ihave_of : Note → Ihave
ihave_of n = record { id = n.id; round = n.round }

-- the identifiers in these rows of a list of notes
abbrev pub ihaves_at : List Note → List ℕ → List Ihave
ihaves_at ns rows = map (λ i. ihave_of (note_at ns i)) rows

-- the notes in these rows
abbrev pub notes_at : List Note → List ℕ → List Note
notes_at ns rows = map (note_at ns) rows

-- these are rows of a list of notes
abbrev pub RowsOf : List Note → List ℕ → Type 0
RowsOf ns rows = All (λ i. i < length ns) rows

-- these are the rows of a list for the peer of a link
pub record Mine (s : State) (ns : List Note) (link : ℕ) (rows : List ℕ) : Type 0 where
  pub among : RowsOf ns rows
  pub mine : ihaves_at ns rows ≡ queued_for (peer_at s link) ns

-- is one of these cached?
abbrev pub some_held : (ℕ → Bool) → List Ihave → Bool
some_held held hs = any (λ h. held h.id) hs

-- is the identifier among these?
abbrev pub among : ℕ → List Ihave → Bool
among id hs = any (λ h. eqb h.id id) hs

-- does no timer follow this IHave? It is taken, or the record has its timer, or nothing of it is cached
abbrev pub quiet : (ℕ → Bool) → Bool → Bool → List Ihave → Bool
quiet held taken flag hs = taken || flag || not (some_held held hs)

-- the timer that follows an IHave
abbrev pub timer_after : Bool → List Action
timer_after still = if still then [] else Scheduled ANNOUNCE_DROPPED_INTERVAL.0 AnnounceDropped ∷ []

-- an IHave, and the timer that follows it
abbrev pub one_send : (ℕ → Bool) → Bool → Bool → ℕ → List Ihave → List Action
one_send held taken flag p hs = Sent p taken (IHave hs) ∷ timer_after (quiet held taken flag hs)

-- the flag of the record's timer after it
abbrev pub flag_after : (ℕ → Bool) → Bool → Bool → List Ihave → Bool
flag_after held taken flag hs = if quiet held taken flag hs then flag else true

-- the flag after several
unfoldable pub flag_after_all : (ℕ → Bool) → List Room → Bool → List Piece → Bool
flag_after_all held rooms flag [] = flag
flag_after_all held rooms flag (x ∷ xs) = flag_after_all held rooms (flag_after held (piece_taken rooms x) flag x.ihaves) xs

-- these are rows of the queue for the peer of a link
pub record LinkPart (s : State) (l : ℕ) (rows : List ℕ) : Type 0 where
  pub among : RowsOf s.queue rows
  pub own : All (λ i. (note_at s.queue i).peer ≡ peer_at s l) rows
  pub link : l < length s.links

-- the record takes these rows of the queue, and stands with its flag
abbrev pub noted_again : List ℕ → State → State
noted_again rows s = recorded_state (s.dropped ++ notes_at s.queue rows) s

-- these rows of the queue are what is handed back and noted
pub record NotedBack (call : Call) (s : State) (rows : List ℕ) : Type 0 where
  pub few : length rows ≤ MAX_DROPPED
  pub among : RowsOf s.queue rows
  pub noted : add_batches (cached_in s.cache) (dispatch_batches (rooms_of call s) (queued_peers s.queue) (per_message s.settings.max_message_size) s.queue) s.dropped ≡ s.dropped ++ notes_at s.queue rows
