-- `encode_entries`: the entries that are left complete what is to be written.
use Rattle.announcements.proofs.Words.{◌≡◌, drop, concat_map, ihave_bytes, shown}
use Rattle.wire.specs.Encode.Intake.{after}
use Rattle.announcements.specs.QueuedRows.{ihaves_at}
use Rattle.announcements.proofs.on_dispatch_timer.ihave.encode_entries.Given as goal

abbrev pub invariant-loop-row : goal.invariant-loop-row
invariant-loop-row g l =
    let held = g.S.Sink.intake in
    let queue = (shown l.ihave.view).queue in
    after (concat_map ihave_bytes (ihaves_at queue (drop l.row-index l.ihave.rows.now))) (held l.out) ≡ after (concat_map ihave_bytes (ihaves_at queue l.ihave.rows.now)) (held l.initial.out)
