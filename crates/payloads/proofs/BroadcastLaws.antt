-- The actions of a broadcast: a first event's eviction changes none of them, and they are a dispatch timer and a push.
-- Assumes nothing.
use Rattle.payloads.proofs.Words.{◌≡◌, ℕ, List, ◌++◌, refl, ap, ◌∙◌, concat_map, id_of, concat-append, Action, action_bytes, State, settled, push_actions, rooms_of, Call, settled-as}
use Rattle.postcard.specs.Message as message
use Rattle.postcard.specs.declared.message.Delivery.TheVariants.{Swarm}
use Rattle.wire.specs.declared.encode.message.Gossip.{Gossip}
use Rattle.decide.specs.ActionsAfter.{dispatch_action, broadcast_actions}
use Rattle.steps.specs.Rooms.{rooms_in}
use Rattle.payloads.specs.EagerPush.Targets.{link_peers}
use Rattle.payloads.specs.EagerPush.Sends.{push_bytes}
use Rattle.payloads.specs.Broadcast.{OwnPush, broadcast_bytes}
use Rattle.payloads.specs.declared.broadcast.OwnMessage.{OwnMessage}

module _ (call : Call) (m : OwnMessage) (now : ℕ) (s : State) where
  -- the message that is pushed
  abbrev pub pushed : Gossip
  pushed = record { id = m.id; content = m.content; delivery = Swarm (record { 0 = 0 }) }

  abbrev sent_to : List ℕ → State → List Action
  sent_to ps u = dispatch_action u ++ push_actions (rooms_of call u) (message.Gossip (id_of m.id) m.content.now (message.Swarm 0)) ps u.timers.announce

  pub broadcast-parts : OwnPush call (id_of m.id) (settled now s) m.push
      → broadcast_bytes call m.id m.content.now (settled now s) ≡ concat_map action_bytes (dispatch_action s) ++ push_bytes call m.push.to pushed s
  unfolding broadcast_actions dispatch_action rooms_in
  broadcast-parts d =
      ap (λ (ps : List ℕ). concat_map action_bytes (sent_to ps (settled now s))) d.to.same
      ∙ settled-as now s (λ (u : State). concat_map action_bytes (sent_to (link_peers m.push.to u) u)) refl
      ∙ concat-append action_bytes (dispatch_action s) (push_actions (rooms_of call s) (message.Gossip (id_of m.id) m.content.now (message.Swarm 0)) (link_peers m.push.to s) s.timers.announce)
