-- A Graft from the neighbour of a link.
-- Assumes nothing.
use Rattle.std.specs.Prelude.{ℕ, List, Option}
use Rattle.storage.specs.Lists.Base.{concat_map}
use Rattle.storage.specs.declared.rows.id.Id.{Id}
use Rattle.postcard.specs.Message.{action_bytes}
use Rattle.postcard.specs.Values.{wanted_value}
use Rattle.protocol.specs.State.{State}
use Rattle.decide.specs.StateAfter.{graft_state}
use Rattle.decide.specs.ActionsAfter.{graft_actions}
use Rattle.block.specs.LinkSteps.{peer_at}
use Rattle.steps.specs.Calls.{rooms_of}
use Rattle.steps.specs.declared.call.Call.{Call}

-- the state after it
abbrev pub after_graft : Call → ℕ → Option Id → State → State
after_graft call l wanted s = graft_state (rooms_of call s) (peer_at s l) (wanted_value wanted) s

-- its actions
abbrev pub graft_bytes : Call → ℕ → Option Id → State → List ℕ
graft_bytes call l wanted s = concat_map action_bytes (graft_actions (rooms_of call s) (peer_at s l) (wanted_value wanted) s)
