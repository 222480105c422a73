-- `may_note` meets its contract: where no link can hand back, nothing is noted.
use Rattle.announcements.proofs.Words.{sym, arith, [], ◌∙◌, append-nil, All-nil, ◌<◌, length, shown, queue-few}
use Rattle.announcements.specs.QueuedRows.{held_then}
use Rattle.announcements.proofs.OnDispatchLaws.BatchLaws.{none-noted}
use Rattle.announcements.proofs.OnDispatchLaws.StateLaws.{noted-then}
use Rattle.announcements.proofs.on_dispatch_timer.may_note.Goals as goal

pub returns : goal.returns
returns c none =
    let v = c.args.view.now in
    let s = shown v in
    let now = c.args.call.now.instant.0 in
    noted-then now c.args.call.now s [] (omega arith) (All-nil (λ i. i < length s.queue))
    (none-noted (held_then now s) c.args.call.now s c.requires (queue-few v.head.now v.block.now v.sound) (c.may_hand_back.ensures none) ∙ sym (append-nil s.dropped))
