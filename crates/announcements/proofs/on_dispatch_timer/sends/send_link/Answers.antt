-- `send_link` meets its contract.
use Rattle.announcements.proofs.Words.{◌≡◌, ℕ, List, ◌+◌, ◌<◌, ◌≤◌, length, sym, ap, ◌∙◌, rules, arith, Bool, ◌++◌, get_or, length-append, ltb, min, State, per_message, peer_at, rooms_of, note_at, shown, link-key, kth-link, queue-few, links-few}
use lib.ListN.{length-map}
use Rattle.std.specs.Slice.Iter.{chunks_rest, chunks_size}
use Rattle.decide.specs.Rooms.{kth_taken}
use Rattle.block.specs.declared.links.NumberedLink.{NumberedLink}
use Rattle.announcements.proofs.PerMessageLaws.{per-message}
use Rattle.announcements.specs.QueuedRows.{held_then, ihave_of, ihaves_at}
use Rattle.announcements.proofs.OnDispatchLaws.QueueLaws.{queued-few}
use Rattle.announcements.proofs.OnDispatchLaws.RowLaws.{piece-first, piece-rest, piece-rows, rest-rows, later-than}
use Rattle.announcements.proofs.OnDispatchLaws.SendLaws.{link_start, link-next, link-written, link-flag}
use Rattle.announcements.proofs.on_dispatch_timer.sends.send_link.Goals as goal
use Rattle.announcements.proofs.on_dispatch_timer.sends.send_link.Given.{Over}
use Rattle.announcements.proofs.on_dispatch_timer.sends.send_link.Goals.{Start, After-link-peer, In-Some, In-None}

pub offset_bounds-call-queued : goal.offset_bounds-call-queued
offset_bounds-call-queued g c = omega (arith, c.requires.link, links-few c.args.view.now.head.now c.args.view.now.block.now c.args.view.now.sound)

pub bounds-call-queued : goal.bounds-call-queued
bounds-call-queued g c = omega (arith, c.requires.link, links-few c.args.view.now.head.now c.args.view.now.block.now c.args.view.now.sound)

pub chunks-rows-items-requires : goal.chunks-rows-items-requires
chunks-rows-items-requires g c = omega (arith, c.per_message.ensures, (per-message (shown c.args.view.now) c.requires.rest.ranged).some)

-- few rows
rows-few : (g : Over) (c : Start g) → length c.args.queued.now.rows.now ≤ 8192
rows-few g c =
    let v = c.args.view.now in
    let s = shown v in
    omega (arith, length-map c.args.queued.now.rows.now (λ (i : ℕ). ihave_of (note_at s.queue i)), ap length c.requires.mine.mine, queued-few (peer_at s c.args.queued.now.link) s.queue, queue-few v.head.now v.block.now v.sound)

-- the peer
peer-is : (g : Over) (c : After-link-peer g) → c.link-peer.result.peer ≡ peer_at (shown c.args.view.now) c.args.queued.now.link
peer-is g c =
    let v = c.args.view.now in
    ap (λ (x : NumberedLink). x.peer) c.link-peer.ensures ∙ sym (link-key (shown v) c.args.queued.now.link)

pub loop-rows-init : goal.loop-rows-init
loop-rows-init g c =
    let a = c.args in
    let s = shown a.view.now in
    let held = held_then a.call.now.instant.0 s in
    let rooms = rooms_of a.call.now s in
    let q = peer_at s a.queued.now.link in
    let k = per_message s.settings.max_message_size in
    let rows : chunks_rest c.into_iter-rows-iterator.result ≡ a.queued.now.rows.now = search rules in
    let size : chunks_size c.into_iter-rows-iterator.result ≡ k = search rules in (
      omega (arith, size, (per-message s c.requires.rest.ranged).some),
      tt,
      size,
      rw rows c.requires.mine.among,
      omega (arith, ap length rows),
      rw (rows, c.requires.mine.mine) (link_start held rooms q k s.queue a.before (g.S.Sink.intake a.out.now) (queued-few q s.queue)),
    )

-- the next piece
module _ (g : Over) (c : In-Some g) where
  abbrev s : State
  s = shown c.args.view.now

  abbrev left : List ℕ
  left = chunks_rest c.loop-rows.rows-iterator

  abbrev k : ℕ
  k = per_message s.settings.max_message_size

  parts : left ≡ c.in-Some.rows.now ++ chunks_rest c.next.new.self
  parts = c.in-Some.ensures.steps.1.0

  size : length c.in-Some.rows.now ≡ min k (length left)
  size = rw c.loop-rows.invariant.2 at c.in-Some.ensures.steps.1.1

  some : 0 < length (ihaves_at s.queue left)
  some = omega (arith, c.in-Some.ensures.steps.1.2, length-map left (λ (i : ℕ). ihave_of (note_at s.queue i)))

  one : 1 ≤ k
  one = (per-message s c.requires.rest.ranged).some

  sent-few : c.loop-rows.sent + 1 ≤ 8192
  sent-few = omega (arith, c.loop-rows.invariant.4, c.in-Some.ensures.steps.1.2, rows-few g ((goal.at.In-Some g c).Start))

  abbrev taken : Bool
  taken = ltb c.loop-rows.sent (get_or c.args.call.now.rooms.now.links c.args.queued.now.link 0)

  taken-is : taken ≡ kth_taken (c.loop-rows.sent + 1) (peer_at s c.args.queued.now.link) (rooms_of c.args.call.now s)
  taken-is =
      later-than c.loop-rows.sent (get_or c.args.call.now.rooms.now.links c.args.queued.now.link 0)
      ∙ sym (kth-link s c.args.call.now.peer c.args.call.now.rooms.now (c.loop-rows.sent + 1) c.args.queued.now.link c.requires.rest.consistent.core.links_up c.requires.link (omega (arith, sent-few)))

pub invariant_of-message : goal.invariant_of-message
invariant_of-message g c = record { queued = piece-rows (shown c.args.view.now).queue _ _ _ _ (parts g (goal.at.invariant_of-message g c).In-Some) (size g (goal.at.invariant_of-message g c).In-Some) c.loop-rows.invariant.3 }

pub loop-rows-preserved : goal.loop-rows-preserved
loop-rows-preserved g c =
    let n = (goal.at.loop-rows-preserved g c).In-Some in
    let s = shown c.args.view.now in
    let e = piece-first s.queue (k g n) _ _ _ (parts g n) (size g n) in
    let q = peer-is g ((goal.at.In-Some g n).After-link-peer) in (
      search rules,
      tt,
      c.in-Some.ensures.steps.0 ∙ c.loop-rows.invariant.2,
      rest-rows s.queue (k g n) _ _ _ (parts g n) (size g n) c.loop-rows.invariant.3,
      omega (arith, c.loop-rows.invariant.4, ap length (parts g n), length-append c.in-Some.rows.now (chunks_rest c.next.new.self), size g n, one g n, c.in-Some.ensures.steps.1.2),
      link-next c.loop-rows.invariant.5 (taken g n) (some g n) (one g n) (taken-is g n) (g.S.Sink.intake c.send_ihave-flag.new.out) c.send_ihave-flag.result (ihaves_at s.queue (chunks_rest c.next.new.self))
          (rw (sym q, sym e) c.send_ihave-flag.ensures.sent) (rw (sym e) c.send_ihave-flag.ensures.flags) (piece-rest s.queue (k g n) _ _ _ (parts g n) (size g n)),
    )

none-left : (g : Over) (c : In-None g) → length (ihaves_at (shown c.args.view.now).queue (chunks_rest c.loop-rows.rows-iterator)) ≡ 0
none-left g c = length-map (chunks_rest c.loop-rows.rows-iterator) (λ (i : ℕ). ihave_of (note_at (shown c.args.view.now).queue i)) ∙ c.in-None.ensures.steps.1.0

pub returns-clause-sent : goal.returns-clause-sent
returns-clause-sent g c = link-written c.loop-rows.invariant.5 (none-left g (goal.at.returns-clause-sent g c).In-None)

pub returns-clause-flags : goal.returns-clause-flags
returns-clause-flags g c = link-flag c.loop-rows.invariant.5 (none-left g (goal.at.returns-clause-flags g c).In-None)
