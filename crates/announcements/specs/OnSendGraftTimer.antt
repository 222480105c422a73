-- SendGraft of an identifier.
-- Assumes nothing.
use Rattle.std.specs.Prelude.{ℕ, List}
use Rattle.storage.specs.Lists.Base.{concat_map}
use Rattle.storage.specs.Rows.Ident.{id_of}
use Rattle.storage.specs.declared.rows.id.Id.{Id}
use Rattle.postcard.specs.Message.{action_bytes}
use Rattle.protocol.specs.State.{State}
use Rattle.decide.specs.StateAfter.{send_graft_state}
use Rattle.decide.specs.ActionsAfter.{send_graft_actions}
use Rattle.steps.specs.Calls.{rooms_of}
use Rattle.steps.specs.declared.call.Call.{Call}

-- the state after it
abbrev pub after_send_graft : Call → Id → State → State
after_send_graft call id s = send_graft_state call.instant.0 (id_of id) s

-- its actions
abbrev pub send_graft_bytes : Call → Id → State → List ℕ
send_graft_bytes call id s = concat_map action_bytes (send_graft_actions (rooms_of call s) (id_of id) s)
