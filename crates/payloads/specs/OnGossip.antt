-- A new Swarm message.
-- Assumes nothing.
use Rattle.std.specs.Prelude.{ℕ, List}
use Rattle.storage.specs.Lists.Base.{concat_map}
use Rattle.storage.specs.Lists.Map.{keys}
use Rattle.storage.specs.Rows.Ident.{id_of}
use Rattle.postcard.specs.Message.{action_bytes}
use Rattle.protocol.specs.State.{State}
use Rattle.protocol.specs.Gossips.{grafted_for}
use Rattle.decide.specs.ActionsAfter.{new_actions}
use Rattle.decide.specs.StateAfter.{new_state}
use Rattle.steps.specs.Calls.{rooms_of}
use Rattle.steps.specs.declared.call.Call.{Call}
use Rattle.payloads.specs.OptimizeTree.{shortcut, ShortcutOf}
use Rattle.payloads.specs.EagerPush.Decided.{PushIs}
use Rattle.payloads.specs.declared.on_gossip.Decision.{Decision}
use Rattle.payloads.specs.declared.on_gossip.NewMessage.{NewMessage}

-- what is decided of a message is right, of the state that a first event leaves
pub record Decided (call : Call) (sender id round : ℕ) (s : State) (d : Decision) : Type 0 where
  pub push : PushIs call sender (keys (grafted_for id s)) id s d.push
  pub shortcut : ShortcutOf s sender (shortcut (grafted_for id s) id sender round s) d.shortcut

-- the state after it
abbrev pub after_gossip : Call → NewMessage → State → State
after_gossip call m s = new_state (rooms_of call s) call.instant.0 m.sender (id_of m.id) m.content.now m.round.0 s

-- its actions
abbrev pub gossip_bytes : Call → NewMessage → State → List ℕ
gossip_bytes call m s = concat_map action_bytes (new_actions (rooms_of call s) m.sender (id_of m.id) m.content.now m.round.0 s)
