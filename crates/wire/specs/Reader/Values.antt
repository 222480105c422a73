-- What the values that were read stand for in the definitions.
-- Assumes nothing.
use Rattle.std.specs.Prelude.{ℕ, ◌≡◌, List, length}
use Rattle.storage.specs.Rows.Ident.{id_of}
use Rattle.postcard.specs.Message as message
use Rattle.postcard.specs.Number.{read_number}
use Rattle.postcard.specs.Decode.{read_ihaves, ihaves_in, rest_of}
use Rattle.postcard.specs.Values.{delivery_value, wanted_value, timer_value}
use Rattle.wire.specs.declared.reader.ihaves.Ihaves.{Ihaves}
use Rattle.wire.specs.declared.reader.message.Message.{Message}
use Rattle.wire.specs.declared.reader.message.Message.TheVariants.{Gossip, Prune, Graft, IHave}
use Rattle.wire.specs.declared.reader.event.Event.{Event}
use Rattle.wire.specs.declared.reader.event.Event.TheVariants.{Received, Broadcast, Timer, Up, Down}

-- the announcements that stand at the start of the bytes
abbrev pub ihaves_value : Ihaves → List message.Ihave
ihaves_value hs = ihaves_in (read_ihaves hs.count hs.bytes.now)

-- a message
abbrev pub message_value : Message → message.Message
message_value (Gossip g) = message.Gossip (id_of g.id) g.content.now (delivery_value g.delivery)
message_value Prune = message.Prune
message_value (Graft g) = message.Graft (wanted_value g.wanted) g.round.0
message_value (IHave hs) = message.IHave (ihaves_value hs)

-- an event
abbrev pub event_value : Event → message.Event
event_value (Received peer size m) = message.Received peer (message_value m)
event_value (Broadcast content) = message.Broadcast content.now
event_value (Timer t) = message.Fired (timer_value t)
event_value (Up peer as_quiet) = message.Up as_quiet peer
event_value (Down peer) = message.Down peer

-- a received message's size is that of its bytes: all that follow the peer, which stands at the start of these
abbrev pub SizedBehind : List ℕ → Event → Type 0
SizedBehind bytes (Received peer size m) = size ≡ length (rest_of (read_number bytes))
SizedBehind bytes (Broadcast content) = Unit {0}
SizedBehind bytes (Timer t) = Unit {0}
SizedBehind bytes (Up peer as_quiet) = Unit {0}
SizedBehind bytes (Down peer) = Unit {0}
