-- `send_all` meets its contract.
use Rattle.announcements.proofs.Words.{◌≡◌, List, ◌+◌, ◌<◌, length, ap, ◌∙◌, arith, drop, ◌∷◌, concat_map, keys, action_bytes, Room, State, Links, per_message, settled, dispatch_actions, peer_at, rooms_of, shown, same_links, same-rooms-in, queue-few, links-few}
use Rattle.block.specs.View.{state_of}
use Rattle.block.proofs.LinkLaws.{count-links}
use Rattle.steps.proofs.GroupsLaws.GroupLaws.{apart_of}
use Rattle.announcements.specs.OnDispatchTimer.{dispatch_bytes}
use Rattle.announcements.specs.QueuedRows.{held_then}
use Rattle.announcements.proofs.OnDispatchLaws.ActionLoop.{all-actions, next-peer, no-peer}
use Rattle.announcements.proofs.OnDispatchLaws.LinkRows.{column-long, below-links, mine}
use Rattle.announcements.proofs.OnDispatchLaws.SendLaws.{going_start, going_next, going_end}
use Rattle.announcements.proofs.on_dispatch_timer.sends.send_all.Given.{Over}
use Rattle.announcements.proofs.on_dispatch_timer.sends.send_all.Goals as goal
use Rattle.announcements.proofs.on_dispatch_timer.sends.send_all.Goals.{In-loop-link}

pub group-starts-requires-clause-links : goal.group-starts-requires-clause-links
group-starts-requires-clause-links g c =
    let v = c.args.view.now in
    below-links (shown v) (shown v).queue c.queue_links.result.now c.queue_links.ensures 32 (links-few v.head.now v.block.now v.sound)

pub group-starts-requires-clause-room : goal.group-starts-requires-clause-room
group-starts-requires-clause-room g c =
    let v = c.args.view.now in
    omega (arith, column-long (shown v) (shown v).queue c.queue_links.result.now c.queue_links.ensures, c.requires.long)

pub group-starts-requires-clause-few : goal.group-starts-requires-clause-few
group-starts-requires-clause-few g c =
    let v = c.args.view.now in
    omega (arith, column-long (shown v) (shown v).queue c.queue_links.result.now c.queue_links.ensures, queue-few v.head.now v.block.now v.sound)

pub loop-link-init : goal.loop-link-init
unfolding state_of
loop-link-init g c =
    let v = c.args.view.now in
    let s = shown v in
    let call = c.args.call.now in
    let now = call.instant.0 in
    going_start (held_then now s) (rooms_of call s) (per_message s.settings.max_message_size) s.queue (dispatch_bytes call (settled now s)) (g.S.Sink.intake c.args.out.now) (keys s.links) s.timers.announce
    (ap (λ (rooms : List Room). concat_map action_bytes (dispatch_actions rooms (settled now s))) (same-rooms-in (settled now s) s call.peer call.rooms.now (ap (λ (l : Links). keys l) (same_links now s)))
    ∙ ap (concat_map action_bytes) (all-actions v.head.now v.block.now c.requires.rest now (rooms_of call s)))

-- the next link
module _ (g : Over) (c : In-loop-link g) where
  abbrev s : State
  s = shown c.args.view.now

  low : c.loop-link.link < length s.links
  low = omega (arith, c.loop-link-test.true, c.link_count-link-end.ensures)

  next-is : drop c.loop-link.link (keys s.links) ≡ peer_at s c.loop-link.link ∷ drop (c.loop-link.link + 1) (keys s.links)
  next-is = let v = c.args.view.now in next-peer v.head.now v.block.now c.requires.rest c.loop-link.link (omega (arith, low, count-links v.head.now v.block.now))

  few : c.loop-link.link < 32
  few = omega (arith, low, links-few c.args.view.now.head.now c.args.view.now.block.now c.args.view.now.sound)

pub link_rows-requires : goal.link_rows-requires
link_rows-requires g c = apart_of c.group-starts.ensures.grouped c.loop-link.link (few g ((goal.at.link_rows-requires g c).In-loop-link))

pub send_link-flag-requires-clause-mine : goal.send_link-flag-requires-clause-mine
send_link-flag-requires-clause-mine g c =
    let n = (goal.at.send_link-flag-requires-clause-mine g c).In-loop-link in
    let v = c.args.view.now in
    rw c.link_rows.ensures (mine (shown v) (shown v).queue c.queue_links.result.now c.queue_links.ensures c.requires.rest.consistent.core.links_up c.loop-link.link (low g n) c.group-starts.new.rows c.group-starts.result c.group-starts.ensures.grouped (links-few v.head.now v.block.now v.sound))

pub loop-link-preserved : goal.loop-link-preserved
loop-link-preserved g c =
    let n = (goal.at.loop-link-preserved g c).In-loop-link in
    going_next (drop c.loop-link.link (keys (s g n).links)) c.loop-link.invariant (peer_at (s g n) c.loop-link.link) (drop (c.loop-link.link + 1) (keys (s g n).links)) (next-is g n) (g.S.Sink.intake c.send_link-flag.new.out) c.send_link-flag.result c.send_link-flag.ensures.sent c.send_link-flag.ensures.flags

pub returns : goal.returns
returns g c =
    let v = c.args.view.now in
    going_end (drop c.loop-link.link (keys (shown v).links)) c.loop-link.invariant (no-peer v.head.now v.block.now c.requires.rest c.loop-link.link (omega (arith, c.loop-link-test.false, c.link_count-link-end.ensures, count-links v.head.now v.block.now)))
