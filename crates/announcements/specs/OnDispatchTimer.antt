-- A tick of the dispatch timer.
-- Assumes nothing.
use Rattle.std.specs.Prelude.{ℕ, List}
use Rattle.storage.specs.Lists.Base.{concat_map}
use Rattle.postcard.specs.Message.{action_bytes}
use Rattle.protocol.specs.State.{State}
use Rattle.decide.specs.StateAfter.{dispatch_state}
use Rattle.decide.specs.ActionsAfter.{dispatch_actions}
use Rattle.steps.specs.Calls.{rooms_of}
use Rattle.steps.specs.declared.call.Call.{Call}

-- the state after it
abbrev pub after_dispatch : Call → State → State
after_dispatch call s = dispatch_state (rooms_of call s) s

-- its actions
abbrev pub dispatch_bytes : Call → State → List ℕ
dispatch_bytes call s = concat_map action_bytes (dispatch_actions (rooms_of call s) s)
