-- `send_link`: what was sent and what the rows that are left have to add make the whole.
use Rattle.announcements.proofs.Words.{◌≡◌, ◌≤◌, ◌+◌, length, concat_map, action_bytes, per_message, peer_pieces, piece_actions, peer_at, rooms_of, shown}
use Rattle.std.specs.Slice.Iter.{chunks_rest, chunks_size}
use Rattle.announcements.specs.QueuedRows.{held_then, flag_after_all, ihaves_at, RowsOf}
use Rattle.announcements.proofs.OnDispatchLaws.SendLaws.{Linking}
use Rattle.announcements.proofs.on_dispatch_timer.sends.send_link.Given as goal

abbrev pub invariant-loop-rows : goal.invariant-loop-rows
invariant-loop-rows g l =
    let s = shown l.view in
    let held = held_then l.call.instant.0 s in
    let rooms = rooms_of l.call s in
    let p = peer_at s l.queued.link in
    let k = per_message s.settings.max_message_size in
    (goal.iterator-loop-rows g).can_next l.rows-iterator
    × (goal.iterator-loop-rows g).is_finite l.rows-iterator
    × (chunks_size l.rows-iterator ≡ k)
    × RowsOf s.queue (chunks_rest l.rows-iterator)
    × (l.sent + length (chunks_rest l.rows-iterator) ≤ length l.queued.rows.now)
    × Linking held rooms p k (concat_map action_bytes (piece_actions held rooms l.fn.before (peer_pieces k s.queue p))) (flag_after_all held rooms l.fn.before (peer_pieces k s.queue p)) (g.S.Sink.intake l.initial.out) (g.S.Sink.intake l.out)
    (ihaves_at s.queue (chunks_rest l.rows-iterator)) (l.sent + 1) l.flag
