-- The actions of a new Swarm message, one part after the other.
-- Assumes nothing.
use Rattle.payloads.proofs.Words.{◌≡◌, ℕ, suc, ◌+◌, List, [], ◌∷◌, ◌++◌, refl, sym, ap, ◌∙◌, add-one, concat_map, keys, id_of, concat-append, concat-one, Action, Emitted, action_bytes, State, eager_targets, grafted_for, settled, push_actions, rooms_of, Call, settled-as, LinkSet}
use Rattle.postcard.specs.Message as message
use Rattle.decide.specs.ActionsAfter.{dispatch_action, new_actions}
use Rattle.steps.specs.Rooms.{rooms_in}
use Rattle.wire.specs.declared.encode.message.Gossip.{Gossip}
use Rattle.postcard.specs.declared.message.Delivery.TheVariants.{Swarm}
use Rattle.payloads.specs.OptimizeTree.{shortcut_bytes}
use Rattle.payloads.specs.EagerPush.Targets.{link_peers}
use Rattle.payloads.specs.EagerPush.Sends.{push_bytes}
use Rattle.payloads.specs.OnGossip.{Decided, gossip_bytes}
use Rattle.payloads.proofs.OptimizeTreeLaws.{optimise_on, optimised-bytes, shortcut-then}
use Rattle.payloads.specs.declared.on_gossip.NewMessage.{NewMessage}

module _ (call : Call) (m : NewMessage) (now : ℕ) (s : State) where
  abbrev t : State
  t = settled now s

  abbrev id : ℕ
  id = id_of m.id

  -- the message that is pushed
  abbrev pub pushed : Gossip
  pushed = record { id = m.id; content = m.content; delivery = Swarm (record { 0 = m.round.0 + 1 }) }

  abbrev push_by : ℕ → List ℕ → State → List Action
  push_by r ps u = push_actions (rooms_of call u) (message.Gossip id m.content.now (message.Swarm r)) ps u.timers.announce

  settled-pushed : (r : ℕ) (to : LinkSet) → push_by r (link_peers to t) t ≡ push_by r (link_peers to s) s
  unfolding rooms_in
  settled-pushed r to = settled-as now s (λ (u : State). push_by r (link_peers to u) u) refl

  settled-dispatch : dispatch_action t ≡ dispatch_action s
  unfolding dispatch_action
  settled-dispatch = settled-as now s dispatch_action refl

  abbrev optimised : List Action
  optimised = optimise_on (rooms_of call t) id m.sender m.round.0 t

  pub new-bytes : Decided call m.sender id m.round.0 t m.decision
      → gossip_bytes call m t
      ≡ ((push_bytes call m.decision.push.to pushed s ++ concat_map action_bytes (dispatch_action s)) ++ shortcut_bytes call m.decision.shortcut s) ++ action_bytes (Emitted m.sender m.content.now (message.Swarm m.round.0))
  unfolding new_actions optimise_on
  new-bytes d =
      let to : LinkSet = m.decision.push.to in
      let first : push_by (suc m.round.0) (eager_targets m.sender (keys (grafted_for id t)) t) t ≡ push_by (m.round.0 + 1) (link_peers to s) s =
      ap (λ (ps : List ℕ). push_by (suc m.round.0) ps t) d.push.to.same ∙ settled-pushed (suc m.round.0) to ∙ ap (λ (r : ℕ). push_by r (link_peers to s) s) (sym (add-one m.round.0)) in
      let last : concat_map action_bytes optimised ≡ shortcut_bytes call m.decision.shortcut s =
      sym (optimised-bytes call id m.sender m.round.0 t m.decision.shortcut d.shortcut) ∙ shortcut-then call id m.sender m.round.0 s now m.decision.shortcut in
      (λ j. concat_map action_bytes (((first j ++ settled-dispatch j) ++ optimised) ++ (Emitted m.sender m.content.now (message.Swarm m.round.0) ∷ [])))
      ∙ concat-append action_bytes ((push_by (m.round.0 + 1) (link_peers to s) s ++ dispatch_action s) ++ optimised) (Emitted m.sender m.content.now (message.Swarm m.round.0) ∷ [])
      ∙ (λ j. rest to last j ++ concat-one action_bytes (Emitted m.sender m.content.now (message.Swarm m.round.0)) j)
    where
      rest : (to : LinkSet) → concat_map action_bytes optimised ≡ shortcut_bytes call m.decision.shortcut s
          → concat_map action_bytes ((push_by (m.round.0 + 1) (link_peers to s) s ++ dispatch_action s) ++ optimised) ≡ (push_bytes call to pushed s ++ concat_map action_bytes (dispatch_action s)) ++ shortcut_bytes call m.decision.shortcut s
      rest to last =
          concat-append action_bytes (push_by (m.round.0 + 1) (link_peers to s) s ++ dispatch_action s) optimised
          ∙ (λ j. concat-append action_bytes (push_by (m.round.0 + 1) (link_peers to s) s) (dispatch_action s) j ++ last j)
