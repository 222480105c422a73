-- A broadcast that is sent.
-- Assumes nothing.
use Rattle.std.specs.Prelude.{ℕ, List, []}
use Rattle.storage.specs.Lists.Base.{concat_map}
use Rattle.storage.specs.Rows.Ident.{id_of}
use Rattle.storage.specs.declared.rows.id.Id.{Id}
use Rattle.postcard.specs.Message.{action_bytes}
use Rattle.protocol.specs.State.{State}
use Rattle.decide.specs.ActionsAfter.{broadcast_actions}
use Rattle.decide.specs.StateAfter.{broadcast_state}
use Rattle.steps.specs.Calls.{rooms_of}
use Rattle.steps.specs.declared.call.Call.{Call}
use Rattle.payloads.specs.EagerPush.Decided.{PushIs}
use Rattle.payloads.specs.declared.eager_push.Push.{Push}

-- what is decided of its eager push is right, of the state that a first event leaves: the panel is the sender, and no grafted peer is skipped
abbrev pub OwnPush : Call → ℕ → State → Push → Type 0
OwnPush call id s push = PushIs call s.settings.me [] id s push

-- its actions
abbrev pub broadcast_bytes : Call → Id → List ℕ → State → List ℕ
broadcast_bytes call id content s = concat_map action_bytes (broadcast_actions (rooms_of call s) (id_of id) content s)

-- the state after it
abbrev pub after_broadcast : Call → Id → List ℕ → State → State
after_broadcast call id content s = broadcast_state (rooms_of call s) call.instant.0 (id_of id) content s
