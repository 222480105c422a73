-- The counts record of the specification, as the code has it.
-- Assumes nothing.
use Rattle.protocol.specs.State.{Counts}
use Rattle.whole.specs.declared.stats.Stats.{Stats}

-- the counts record, as the definitions have it
abbrev pub counts_of : Stats → Counts
counts_of c = record { payload = c.payload_messages_received; control = c.control_messages_received; hops = c.max_last_delivery_hop }
