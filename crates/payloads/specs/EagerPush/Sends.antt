-- The actions of an eager push, as bytes.
-- Assumes nothing.
use Rattle.std.specs.Prelude.{List, ℕ, map}
use Rattle.storage.specs.Lists.Base.{concat_map}
use Rattle.storage.specs.Rows.Ident.{id_of}
use Rattle.postcard.specs.Message as message
use Rattle.postcard.specs.Message.{Message, action_bytes}
use Rattle.postcard.specs.Values.{delivery_value}
use Rattle.wire.specs.declared.encode.message.Gossip.{Gossip}
use Rattle.protocol.specs.State.{State}
use Rattle.decide.specs.Rooms.{first_send}
use Rattle.decide.specs.RecordGrowth.{push_actions}
use Rattle.steps.specs.Calls.{rooms_of}
use Rattle.steps.specs.declared.call.Call.{Call}
use Rattle.steps.specs.declared.link_set.LinkSet.{LinkSet}
use Rattle.payloads.specs.EagerPush.Targets.{link_peers}

-- the message
abbrev pub gossip_value : Gossip → Message
gossip_value g = message.Gossip (id_of g.id) g.content.now (delivery_value g.delivery)

-- it is sent to the peer of each of these links
abbrev pub sends_bytes : Call → LinkSet → Gossip → State → List ℕ
sends_bytes call to g s = concat_map action_bytes (map (first_send (rooms_of call s) (gossip_value g)) (link_peers to s))

-- it is cached: the sends, and the record's timer behind them
abbrev pub push_bytes : Call → LinkSet → Gossip → State → List ℕ
push_bytes call to g s = concat_map action_bytes (push_actions (rooms_of call s) (gossip_value g) (link_peers to s) s.timers.announce)
