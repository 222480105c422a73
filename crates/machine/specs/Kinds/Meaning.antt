-- What each step stands for: its actions and the state that it makes of the state that a first event leaves. And what it means that a step is that of an event.
-- Assumes nothing.
use Rattle.std.specs.Prelude.{ℕ, suc, ◌≤◌, ◌<◌, ◌≡◌, Bool, true, false, List, [], ◌∷◌, ◌++◌, eqb, length}
use Rattle.storage.specs.Lists.Base.{all}
use Rattle.storage.specs.Rows.Ident.{id_of}
use Rattle.blake3.specs.Blake3.{identifier}
use Rattle.postcard.specs.Message.{Neighbors, Event, Received, Action, Emitted}
use Rattle.postcard.specs.Values.{wanted_value}
use Rattle.wire.specs.Reader.Values.{ihaves_value}
use Rattle.wire.specs.declared.reader.ihaves.Ihaves.{Ihaves}
use Rattle.wire.specs.declared.reader.event.Event.{Event as Read}
use Rattle.wire.specs.declared.reader.event.Event.TheVariants as read
use Rattle.wire.specs.declared.reader.message.Message.{Message as ReadMessage}
use Rattle.wire.specs.declared.reader.message.Message.TheVariants as messages
use Rattle.postcard.specs.declared.message.Timer.{Timer}
use Rattle.postcard.specs.declared.message.Timer.TheVariants as timer
use Rattle.protocol.specs.Links.{add_lazy, is_neighbour}
use Rattle.protocol.specs.State.{State, Counts, with_links}
use Rattle.protocol.specs.Run.{Room}
use Rattle.protocol.specs.Ticks.{evict}
use Rattle.protocol.specs.Handle.{count_message}
use Rattle.block.specs.LinkSteps.{peer_at}
use Rattle.decide.specs.Settled.{settled, settled_actions, too_far_before}
use Rattle.decide.specs.ActionsAfter.{new_actions, late_actions, graft_actions, ihave_actions, broadcast_actions, send_graft_actions, dispatch_actions, evict_actions, announce_actions, actions_after}
use Rattle.decide.specs.StateAfter.{new_state, graft_state, ihave_state, broadcast_state, send_graft_state, dispatch_state, announce_state, state_after}
use Rattle.steps.specs.declared.call.Call.{Call}
use Rattle.payloads.specs.Broadcast.{OwnPush}
use Rattle.payloads.specs.OnGossip.{Decided}
use Rattle.payloads.specs.OnLateGraftReply.{late_value, LateHeld, after_late}
use Rattle.announcements.specs.OnAnnounceDroppedTimer.{StillCachedOf}
use Rattle.announcements.specs.QueuedRows.{NotedBack}
use Rattle.announcements.specs.Ihaves.Entries.{is_received}
use Rattle.announcements.specs.OnIhave.{entries_value, IhaveDecided, Decided as EachCounts}
use Rattle.announcements.specs.declared.on_ihave.IhaveDecision.{IhaveDecision}
use Rattle.announcements.specs.declared.on_ihave.TheConstants.{MAX_ANNOUNCEMENTS, FEW_ANNOUNCEMENTS}
use Rattle.announcements.specs.declared.cached_rows.TheConstants.{FEW_ROWS}
use Rattle.decide.specs.Counted.{raised, counts_after_call}
use Rattle.machine.specs.declared.kinds.Step.{Step}
use Rattle.machine.specs.declared.kinds.Step.TheVariants as step
use Rattle.machine.specs.declared.kinds.RowsToDecide.{RowsToDecide}
use Rattle.machine.specs.declared.kinds.RowsToDecide.TheVariants as to_decide
use Rattle.machine.specs.declared.kinds.DecidedRows.{DecidedRows}
use Rattle.machine.specs.declared.kinds.DecidedRows.TheVariants as rows
use Rattle.protocol.specs.declared.TheConstants.{LAST_ROUND}

-- its actions; `s` is the state that a first event leaves
unfoldable pub step_actions : List Room → ℕ → Step → State → List Action
step_actions rooms now (step.NewSwarm m) s = new_actions rooms m.sender (id_of m.id) m.content.now m.round.0 s
step_actions rooms now (step.NewNeighbors sender content) s = Emitted sender content.now Neighbors ∷ []
step_actions rooms now (step.Late copy) s = late_actions rooms copy.sender (late_value s copy.kind)
step_actions rooms now (step.Graft link w) s = graft_actions rooms (peer_at s link) (wanted_value w) s
step_actions rooms now (step.IHave link d) s = ihave_actions (entries_value d.entries.now) s
step_actions rooms now (step.Broadcast m) s = broadcast_actions rooms (id_of m.id) m.content.now s
step_actions rooms now (step.SendGraft id) s = send_graft_actions rooms (id_of id) s
step_actions rooms now (step.DispatchLazyPush rows) s = dispatch_actions rooms s
step_actions rooms now step.EvictCache s = evict_actions now s
step_actions rooms now (step.AnnounceDropped cached) s = announce_actions s
step_actions rooms now _ s = []

-- the state after it
unfoldable pub step_state : List Room → ℕ → Step → State → State
step_state rooms now (step.NewSwarm m) s = new_state rooms now m.sender (id_of m.id) m.content.now m.round.0 s
step_state rooms now (step.Late copy) s = after_late copy s
step_state rooms now (step.Prune link) s = with_links (add_lazy (peer_at s link) s.links) s
step_state rooms now (step.Graft link w) s = graft_state rooms (peer_at s link) (wanted_value w) s
step_state rooms now (step.IHave link d) s = ihave_state (peer_at s link) (entries_value d.entries.now) s
step_state rooms now (step.Broadcast m) s = broadcast_state rooms now (id_of m.id) m.content.now s
step_state rooms now (step.SendGraft id) s = send_graft_state now (id_of id) s
step_state rooms now (step.DispatchLazyPush rows) s = dispatch_state rooms s
step_state rooms now step.EvictCache s = evict now s
step_state rooms now (step.AnnounceDropped cached) s = announce_state s
step_state rooms now _ s = s

-- (12) "valid Swarm message of round 65,535, unreceived"
unfoldable pub step_far : Step → Bool
step_far (step.NewSwarm m) = eqb m.round.0 LAST_ROUND.0
step_far _ = false

-- "largest r + 1", once the message is counted
unfoldable pub step_counts : Step → Counts → Counts
step_counts (step.NewSwarm m) c = raised (suc m.round.0) c
step_counts _ c = c

-- the counts once the event is counted
unfoldable pub counted_for : Event → Counts → Counts
counted_for (Received p m) c = count_message m c
counted_for _ c = c

-- a content that a step takes from the event is no longer than a message
pub record ContentHeld (content : List ℕ) : Type 0 where
  pub short : length content ≤ 4094

-- announcements of the event, for a link
pub record ListHeld (s : State) (link : ℕ) (ihaves : Ihaves) : Type 0 where
  pub there : link < length s.links
  pub few : ihaves.count ≤ MAX_ANNOUNCEMENTS

-- what a step takes of them
pub record EntriesHeld (s : State) (link : ℕ) (d : IhaveDecision) : Type 0 where
  pub there : link < length s.links
  pub few : length d.entries.now ≤ MAX_ANNOUNCEMENTS

-- what a step names is there
abbrev pub StepHeld : State → Step → Type 0
StepHeld s (step.NewSwarm m) = ContentHeld m.content.now
StepHeld s (step.NewNeighbors sender content) = ContentHeld content.now
StepHeld s (step.Late copy) = LateHeld s copy.kind
StepHeld s (step.Prune link) = link < length s.links
StepHeld s (step.Graft link w) = link < length s.links
StepHeld s (step.IHave link d) = EntriesHeld s link d
StepHeld s (step.Broadcast m) = ContentHeld m.content.now
StepHeld s _ = Unit {0}

-- what is decided of a step is right, of the state that a first event leaves
abbrev pub StepDecided : Call → Step → State → Type 0
StepDecided call (step.NewSwarm m) s = Decided call m.sender (id_of m.id) m.round.0 s m.decision
StepDecided call (step.Broadcast m) s = OwnPush call (id_of m.id) s m.push
StepDecided call (step.IHave link d) s = EachCounts s d
StepDecided call (step.DispatchLazyPush rows) s = NotedBack call s rows.now
StepDecided call (step.AnnounceDropped cached) s = StillCachedOf s cached
StepDecided call _ s = Unit {0}

-- this is what was decided of a timer's rows, of the state that a first event leaves
abbrev pub TimerRows : Call → Timer → State → DecidedRows → Type 0
TimerRows call timer.DispatchLazyPush s (rows.Noted noted) = NotedBack call s noted.now
TimerRows call timer.DispatchLazyPush s _ = NotedBack call s []
TimerRows call timer.AnnounceDropped s (rows.Cached cached) = StillCachedOf s cached
TimerRows call timer.AnnounceDropped s _ = length s.dropped ≡ 0
TimerRows call _ s _ = Unit {0}

-- of the entries of an IHave from a peer; none is decided of one that is longer than a message may be
abbrev pub EntriesFor : ℕ → Ihaves → State → DecidedRows → Type 0
EntriesFor p ihaves s (rows.Entries d) = IhaveDecided s (ihaves_value ihaves) d.entries.now d.order.now
EntriesFor p ihaves s _ = is_neighbour p s.links ≡ true → ihaves.count ≤ MAX_ANNOUNCEMENTS → all (is_received s) (ihaves_value ihaves) ≡ true

-- of a message
abbrev pub MessageRows : ℕ → ReadMessage → State → DecidedRows → Type 0
MessageRows p (messages.IHave ihaves) s decided = EntriesFor p ihaves s decided
MessageRows p _ s decided = Unit {0}

-- this is what was decided of an event's rows
abbrev pub RowsFor : Call → Read → State → DecidedRows → Type 0
RowsFor call (read.Received p size m) s decided = MessageRows p m s decided
RowsFor call (read.Timer t) s decided = TimerRows call t s decided
RowsFor call _ s decided = Unit {0}

-- the event is an IHave of at most n announcements
abbrev pub EntriesWithin : ℕ → Read → Type 0
EntriesWithin n (read.Received p size (messages.IHave ihaves)) = ihaves.count ≤ n
EntriesWithin n _ = ⊥

-- these are the rows to be decided of an event, upon the state `s` before the call
abbrev pub ToDecide : Call → Read → State → RowsToDecide → Type 0
ToDecide call e s to_decide.Nothing = RowsFor call e (settled call.instant.0 s) rows.Nothing
ToDecide call e s to_decide.EntriesOfFew = EntriesWithin FEW_ANNOUNCEMENTS e
ToDecide call e s to_decide.EntriesOfMany = EntriesWithin MAX_ANNOUNCEMENTS e
ToDecide call e s to_decide.Noted = e ≡ read.Timer timer.DispatchLazyPush
ToDecide call e s to_decide.CachedOfFew = (e ≡ read.Timer timer.AnnounceDropped) × (length s.dropped ≤ FEW_ROWS)
ToDecide call e s to_decide.CachedOfMany = e ≡ read.Timer timer.AnnounceDropped

-- the peer of an event: a received message's sender; 0 for the others
abbrev pub peer_of : Event → ℕ
peer_of (Received p m) = p
peer_of _ = 0

-- the sender that a step names, if it names one
abbrev pub SenderIs : ℕ → Step → Type 0
SenderIs p (step.NewSwarm m) = m.sender ≡ p
SenderIs p (step.NewNeighbors sender content) = sender ≡ p
SenderIs p (step.Late copy) = copy.sender ≡ p
SenderIs p _ = Unit {0}

-- the step is that of the event, upon the state `s` before the call
pub record Means (now : ℕ) (s : State) (r : Step) (e : Event) : Type 0 where
  pub far : too_far_before identifier now e s ≡ step_far r
  pub actions : (rooms : List Room) → actions_after identifier rooms now e s ≡ settled_actions now s ++ step_actions rooms now r (settled now s)
  pub state : (rooms : List Room) → state_after identifier rooms now e s ≡ step_state rooms now r (settled now s)
  pub counts : (c : Counts) → counts_after_call identifier now e s c ≡ step_counts r (counted_for e c)
  pub held : StepHeld s r
  pub sender : SenderIs (peer_of e) r
