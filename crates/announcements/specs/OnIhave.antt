-- An IHave from the neighbour of a link: what is decided of it, and what it does.
-- Assumes nothing.
use Rattle.std.specs.Prelude.{ℕ, ◌≡◌, ◌<◌, true, false, not, ◌||◌, Bool, List, [], map, length, get_or, Option, Some, None}
use Rattle.std.specs.List.{All}
use Rattle.storage.specs.Lists.Base.{ascending, member, filter, concat_map}
use Rattle.storage.specs.Lists.Map.{has}
use Rattle.storage.specs.Rows.Ident.{id_of}
use Rattle.storage.specs.Rows.Sorted.{Between}
use Rattle.time_cache.specs.TimeCache.{holds}
use Rattle.postcard.specs.Message.{Ihave, action_bytes}
use Rattle.protocol.specs.State.{State, with_missing}
use Rattle.decide.specs.StateAfter.{ihave_state}
use Rattle.decide.specs.ActionsAfter.{ihave_actions}
use Rattle.block.specs.LinkSteps.{peer_at}
use Rattle.announcements.specs.Ihaves.Entries.{new_entries, round_of, announced_in}
use Rattle.announcements.specs.Ihaves.Heard.{ihave}
use Rattle.announcements.specs.declared.on_ihave.Unreceived.{Unreceived}
use Rattle.announcements.specs.declared.on_ihave.NewEntry.{NewEntry}
use Rattle.announcements.specs.declared.on_ihave.IhaveDecision.{IhaveDecision}

-- the announcements of entries
abbrev pub entry_value : Unreceived → Ihave
entry_value e = ihave (id_of e.id) e.round.0

abbrev pub entries_value : List Unreceived → List Ihave
entries_value es = map entry_value es

-- the entries of these numbers
abbrev pub entries_at : List Ihave → List ℕ → List Ihave
entries_at hs ns = map (λ n. get_or hs n (ihave 0 0)) ns

-- the entries of a decision, in the order of their identifiers
abbrev pub ordered : IhaveDecision → List Ihave
ordered d = entries_at (entries_value d.entries.now) d.order.now

-- those of messages that are not missing
abbrev pub new_missing : State → List Ihave → List Ihave
new_missing s hs = filter (λ h. not (has h.id s.missing)) hs

-- those for which no timer is marked
abbrev pub new_timers : State → List Ihave → List Ihave
new_timers s hs = filter (λ h. not (member h.id s.timers.graft)) hs

-- the identifiers of announcements
abbrev pub ids : List Ihave → List ℕ
ids hs = map (λ h. h.id) hs

-- whether a message is received
abbrev pub received : State → ℕ → Bool
received s i = holds i s.received

-- what an entry adds: a missing message, and a timer
pub record Adds (s : State) (e : Unreceived) : Type 0 where
  pub missing : e.adds_missing ≡ not (has (id_of e.id) s.missing)
  pub timer : e.adds_timer ≡ not (member (id_of e.id) s.timers.graft)

-- the entry that an announcement adds to others, with its place before which the order has those of lower identifiers
pub record IsNew (s : State) (x : Ihave) (entries : List Unreceived) (order : List ℕ) (n : NewEntry) : Type 0 where
  pub unreceived : received s x.id ≡ false
  pub place : Between (ids (entries_at (entries_value entries) order)) x.id n.place
  pub announces : entry_value n.entry ≡ x
  pub adds : Adds s n.entry

-- or none: its message is received, or its identifier stands before
abbrev pub NewIs : State → Ihave → List Unreceived → List ℕ → Option NewEntry → Type 0
NewIs s x entries order None = (received s x.id || member x.id (ids (entries_at (entries_value entries) order))) ≡ true
NewIs s x entries order (Some n) = IsNew s x entries order n

-- what is decided of these announcements: the entries are those that count, and the order has their numbers by their identifiers
pub record IhaveDecided (s : State) (hs : List Ihave) (entries : List Unreceived) (order : List ℕ) : Type 0 where
  pub count : entries_value entries ≡ new_entries (received s) [] hs
  pub adds : All (Adds s) entries
  pub all : length order ≡ length entries
  pub there : All (λ n. n < length entries) order
  pub ascend : ascending (ids (entries_at (entries_value entries) order)) ≡ true
  pub same : (j : ℕ) → round_of j (entries_at (entries_value entries) order) ≡ round_of j (entries_value entries)

-- the same of the entries themselves: each counts
abbrev pub Decided : State → IhaveDecision → Type 0
Decided s d = IhaveDecided s (entries_value d.entries.now) d.entries.now d.order.now

-- the messages that were missing before have the peer of a link among their announcers
abbrev pub announced_again : ℕ → IhaveDecision → State → State
announced_again l d s = with_missing (announced_in (peer_at s l) (filter (λ h. has h.id s.missing) (entries_value d.entries.now)) s.missing) s

-- the state after it
abbrev pub after_ihave : ℕ → IhaveDecision → State → State
after_ihave l d s = ihave_state (peer_at s l) (entries_value d.entries.now) s

-- its actions
abbrev pub ihave_bytes : IhaveDecision → State → List ℕ
ihave_bytes d s = concat_map action_bytes (ihave_actions (entries_value d.entries.now) s)
