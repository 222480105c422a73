-- `send_all`: what was sent and what the links that are left have to add make the whole.
use Rattle.announcements.proofs.Words.{drop, keys, per_message, settled, rooms_of, shown}
use Rattle.announcements.specs.OnDispatchTimer.{dispatch_bytes}
use Rattle.announcements.specs.QueuedRows.{held_then}
use Rattle.announcements.proofs.OnDispatchLaws.SendLaws.{Going}
use Rattle.announcements.proofs.on_dispatch_timer.sends.send_all.Given as goal

abbrev pub invariant-loop-link : goal.invariant-loop-link
invariant-loop-link g l =
    let s = shown l.view in
    Going (held_then l.call.instant.0 s) (rooms_of l.call s) (per_message s.settings.max_message_size) s.queue (dispatch_bytes l.call (settled l.call.instant.0 s)) (g.S.Sink.intake l.initial.out) (g.S.Sink.intake l.out) (drop l.link (keys s.links)) l.flag
