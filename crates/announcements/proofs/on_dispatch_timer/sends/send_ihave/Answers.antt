-- `send_ihave` meets its contract.
use Rattle.announcements.proofs.Words.{sym, ◌∙◌, not, false, announce_action, shown}
use Rattle.announcements.specs.QueuedRows.{held_then, ihaves_at, some_held}
use Rattle.announcements.proofs.OnDispatchLaws.SendLaws.{send-quiet, send-timed, quiet-or, loud-timer}
use Rattle.announcements.proofs.on_dispatch_timer.sends.send_ihave.Goals as goal

pub returns-then-is_quiet-clause-sent : goal.returns-then-is_quiet-clause-sent
returns-then-is_quiet-clause-sent g c =
    let m = c.args.send.now in
    let held = held_then c.args.instant.0 (shown m.message.view) in
    let hs = ihaves_at (shown m.message.view).queue m.message.rows.now in
    send-quiet held m.taken c.args.flag m.peer hs _ _ c.encode.ensures (quiet-or m.taken c.args.flag (not (some_held held hs)) (sym c.is_quiet.ensures ∙ c.if-is_quiet.true))

pub returns-clause-sent : goal.returns-clause-sent
returns-clause-sent g c =
    let m = c.args.send.now in
    let held = held_then c.args.instant.0 (shown m.message.view) in
    let hs = ihaves_at (shown m.message.view).queue m.message.rows.now in
    send-timed held m.taken c.args.flag m.peer hs _ _ _ c.encode.ensures (announce_action c.any_cached-noted.result false) (loud-timer m.taken c.args.flag (some_held held hs) c.any_cached-noted.result (sym c.is_quiet.ensures ∙ c.if-is_quiet.false) c.any_cached-noted.ensures) c.schedule_announce_dropped.ensures
