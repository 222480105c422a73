-- `some_handed_back` meets its contract.
use Rattle.announcements.proofs.Words.{◌≡◌, ℕ, ◌*◌, ◌<◌, length, get_or, min, sym, ap, ◌∙◌, arith, peer_at, note_at, shown, queue-few}
use lib.ListN.{length-map}
use Rattle.steps.specs.Groups.{part}
use Rattle.announcements.proofs.PerMessageLaws.{per-message}
use Rattle.announcements.specs.QueuedRows.{held_then, ihave_of}
use Rattle.announcements.proofs.OnDispatchLaws.QueueLaws.{queued-few}
use Rattle.announcements.proofs.OnDispatchLaws.BatchLaws.{k, after-none, all-taken, after-all}
use Rattle.announcements.proofs.on_dispatch_timer.noted.some_handed_back.Goals as goal

pub loop-link-init : goal.loop-link-init
loop-link-init c =
    let v = c.args.view.now in
    after-none (held_then c.args.call.now.instant.0 (shown v)) c.args.call.now (shown v) c.requires.rest (queue-few v.head.now v.block.now v.sound)

pub link_rows-queued-requires : goal.link_rows-queued-requires
link_rows-queued-requires c = (c.requires.mine c.loop-link.link (omega (arith, c.loop-link-test.true, c.link_count-link-end.ensures))).0

pub taken-taken-requires-clause-some : goal.taken-taken-requires-clause-some
taken-taken-requires-clause-some c =
    let k = per-message (shown c.args.view.now) c.requires.rest.ranged in
    (omega (arith, c.per_message-per_message.ensures, k.some), omega (arith, c.per_message-per_message.ensures, k.few))

pub taken-taken-requires-clause-few : goal.taken-taken-requires-clause-few
taken-taken-requires-clause-few c =
    let v = c.args.view.now in
    let s = shown v in
    let own = (c.requires.mine c.loop-link.link (omega (arith, c.loop-link-test.true, c.link_count-link-end.ensures))).1 in
    omega (arith, ap length c.link_rows-queued.ensures, length-map (part c.args.rows.now c.args.starts.now c.loop-link.link) (λ (i : ℕ). ihave_of (note_at s.queue i)), ap length own.mine, queued-few (peer_at s c.loop-link.link) s.queue, queue-few v.head.now v.block.now v.sound)

pub loop-link-preserved : goal.loop-link-preserved
loop-link-preserved c =
    let v = c.args.view.now in
    let s = shown v in
    let call = c.args.call.now in
    let l = c.loop-link.link in
    let q : l < length s.links = omega (arith, c.loop-link-test.true, c.link_count-link-end.ensures) in
    let rows = c.link_rows-queued.result.now in
    let n : c.taken-taken.result ≡ min (get_or call.rooms.now.links l 0 * k s) (length rows) = c.taken-taken.ensures ∙ ap (λ (m : ℕ). min (get_or call.rooms.now.links l 0 * m) (length rows)) c.per_message-per_message.ensures in
    all-taken (held_then c.args.call.now.instant.0 s) call s c.requires.rest (queue-few v.head.now v.block.now v.sound) l q rows (rw c.link_rows-queued.ensures (c.requires.mine l q).1.mine) _ n (omega (arith, c.if-taken-queued.false))
    ∙ c.loop-link.invariant

pub returns : goal.returns
returns c = λ _.
    let v = c.args.view.now in
    sym (after-all (held_then c.args.call.now.instant.0 (shown v)) c.args.call.now (shown v) c.requires.rest (queue-few v.head.now v.block.now v.sound) c.loop-link.link (omega (arith, c.loop-link-test.false, c.link_count-link-end.ensures)))
    ∙ c.loop-link.invariant
