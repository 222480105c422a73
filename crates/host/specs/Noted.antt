-- A call is one more of the list.
-- Assumes nothing.
use Rattle.std.specs.Prelude.{take}
use Rattle.plumtree.specs.Calls.{entries}
use Rattle.plumtree.specs.CallList.{CallList, with_call}
use Rattle.host.specs.declared.past.Call.{Call}

abbrev pub noted : CallList → Call → CallList
noted h k =
    with_call (record { now = k.at; event = k.event.now; rooms = entries k.rooms.now; output = k.lent })
    (record { number = k.number; bytes = take k.length k.output.now }) h
