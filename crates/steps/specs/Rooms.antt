-- The link room of a call as numbers: the room of each link, by its number, and that of the event's peer where it has no link. 65,536 and more is no bound.
-- Assumes nothing.
use Rattle.std.specs.Prelude.{ℕ, List, [], ◌∷◌, ◌++◌, ltb, if◌then◌else◌, Option, Some, None}
use Rattle.storage.specs.Lists.Base.{member}
use Rattle.storage.specs.Lists.Map.{keys}
use Rattle.protocol.specs.State.{State}
use Rattle.protocol.specs.Run.{Room}
use Rattle.steps.specs.declared.call.Rooms.{Rooms}

-- a number: the room, or no bound
unfoldable pub room_at : ℕ → Option ℕ
room_at n = if ltb n 65536 then Some n else None

-- the entry of a peer, if it has a bound
unfoldable pub room_entry : ℕ → ℕ → List Room
room_entry p n = if ltb n 65536 then record { peer = p; room = n } ∷ [] else []

-- the entries of peers and the numbers beside them; 0 stands beside those behind the last number
unfoldable pub room_entries : List ℕ → List ℕ → List Room
room_entries [] ns = []
room_entries (p ∷ ps) [] = room_entry p 0 ++ room_entries ps []
room_entries (p ∷ ps) (n ∷ ns) = room_entry p n ++ room_entries ps ns

-- the entry of the event's peer, which stands there where it has no link
unfoldable pub stranger_entry : List ℕ → ℕ → ℕ → List Room
stranger_entry peers peer n = if member peer peers then [] else room_entry peer n

-- the link room that these numbers stand for, of a state with these links, in a call whose event has this peer
unfoldable pub rooms_in : State → ℕ → Rooms → List Room
rooms_in s peer rooms = room_entries (keys s.links) rooms.links ++ stranger_entry (keys s.links) peer rooms.stranger
