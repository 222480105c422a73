-- `put_row`: four puts, each where the one before it ends, are one.
use Rattle.whole.proofs.Words.{ap, ◌∙◌, ◌+◌, put, le_bytes}
use Rattle.storage.proofs.RowsLaws.Digits.{length-le_bytes}
use Rattle.whole.proofs.StatesLaws.Leaves.{four-puts}
use Rattle.whole.proofs.states.put_row.Goals as goal

pub returns : goal.returns
returns c =
    c.store_le.ensures
    ∙ ap (put (c.args.at + 24) (le_bytes 2 c.args.counts.max_last_delivery_hop)) (c.store-3.ensures
    ∙ ap (put (c.args.at + 16) (le_bytes 8 c.args.counts.control_messages_received)) (c.store-2.ensures
    ∙ ap (put (c.args.at + 8) (le_bytes 8 c.args.counts.payload_messages_received)) c.store.ensures))
    ∙ four-puts c.args.area.now c.args.at (le_bytes 8 c.args.name) (le_bytes 8 c.args.counts.payload_messages_received) (le_bytes 8 c.args.counts.control_messages_received) (le_bytes 2 c.args.counts.max_last_delivery_hop)
    (length-le_bytes 8 c.args.name) (length-le_bytes 8 c.args.counts.payload_messages_received) (length-le_bytes 8 c.args.counts.control_messages_received) (length-le_bytes 2 c.args.counts.max_last_delivery_hop) c.requires
