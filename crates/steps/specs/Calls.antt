-- The link room that a call brings.
-- Assumes nothing.
use Rattle.std.specs.Prelude.{List}
use Rattle.protocol.specs.State.{State}
use Rattle.protocol.specs.Run.{Room}
use Rattle.steps.specs.Rooms.{rooms_in}
use Rattle.steps.specs.declared.call.Call.{Call}

-- of a state with these links
abbrev pub rooms_of : Call → State → List Room
rooms_of call s = rooms_in s call.peer call.rooms.now
