-- `find_noted_in` meets its contract.
use Rattle.announcements.proofs.Words.{◌≡◌, ℕ, List, ◌-◌, ◌*◌, ◌<◌, length, get_or, take, drop, min, append-nil, sym, ap, ◌∙◌, arith, All, length-replicate, All-nil, All-same, All-drop, Ihave, State, add_notes, peer_at, note_at, shown, queue-few, record-few, links-few}
use lib.ListN.{length-map}
use Rattle.steps.proofs.GroupsLaws.GroupLaws.{apart_of}
use Rattle.announcements.proofs.PerMessageLaws.{per-message}
use Rattle.announcements.specs.QueuedRows.{held_then, ihave_of, ihaves_at, Mine}
use Rattle.announcements.proofs.OnDispatchLaws.QueueLaws.{queued-few}
use Rattle.announcements.proofs.OnDispatchLaws.FoundLaws.{found-none}
use Rattle.announcements.proofs.OnDispatchLaws.BatchLaws.{k, Earlier, after, back, after-none, after-more, after-all, all-taken, back-rows, earlier-below, earlier-later, earlier-next}
use Rattle.announcements.proofs.OnDispatchLaws.LinkRows.{column-long, below-links, mine, own-peer}
use Rattle.announcements.proofs.OnDispatchLaws.RowLaws.{to-end}
use Rattle.announcements.proofs.on_dispatch_timer.noted.find_noted_in.Goals as goal
use Rattle.announcements.proofs.on_dispatch_timer.noted.find_noted_in.Goals.{In-loop-link, After-link_rows-queued, then-taken-queued, else-taken-queued}

pub group-queue-requires-clause-links : goal.group-queue-requires-clause-links
group-queue-requires-clause-links g c =
    let v = c.args.view.now in
    below-links (shown v) (shown v).queue c.queue_links.result.now c.queue_links.ensures 32 (links-few v.head.now v.block.now v.sound)

pub group-queue-requires-clause-room : goal.group-queue-requires-clause-room
group-queue-requires-clause-room g c = let v = c.args.view.now in omega (arith, column-long (shown v) (shown v).queue c.queue_links.result.now c.queue_links.ensures, c.requires.queue, length-replicate {A = ℕ} g.row.QUEUE 0)

pub group-queue-requires-clause-few : goal.group-queue-requires-clause-few
group-queue-requires-clause-few g c = let v = c.args.view.now in omega (arith, column-long (shown v) (shown v).queue c.queue_links.result.now c.queue_links.ensures, queue-few v.head.now v.block.now v.sound)

pub group-record-requires-clause-links : goal.group-record-requires-clause-links
group-record-requires-clause-links g c =
    let v = c.args.view.now in
    below-links (shown v) (shown v).dropped c.record_links.result.now c.record_links.ensures 32 (links-few v.head.now v.block.now v.sound)

pub group-record-requires-clause-room : goal.group-record-requires-clause-room
group-record-requires-clause-room g c = let v = c.args.view.now in omega (arith, column-long (shown v) (shown v).dropped c.record_links.result.now c.record_links.ensures, c.requires.record, length-replicate {A = ℕ} g.row.RECORD 0)

pub group-record-requires-clause-few : goal.group-record-requires-clause-few
group-record-requires-clause-few g c = let v = c.args.view.now in omega (arith, column-long (shown v) (shown v).dropped c.record_links.result.now c.record_links.ensures, record-few v.head.now v.block.now v.sound)

pub loop-link-init : goal.loop-link-init
loop-link-init g c =
    let v = c.args.view.now in
    let s = shown v in
    rw c.requires.none (record {
      sofar = after-none (held_then c.args.call.now.instant.0 s) c.args.call.now s c.requires.rest (queue-few v.head.now v.block.now v.sound) ∙ sym (append-nil s.dropped);
      among = All-nil (λ i. i < length s.queue);
      earlier = All-nil (Earlier s 0);
      found = found-none c.args.call.now.instant.0 s g.row.FOUND;
      long = length-replicate g.row.FOUND 0;
    })

-- the next link
module _ (g : _) (c : In-loop-link g) where
  abbrev st : State
  st = shown c.args.view.now

  low : c.loop-link.link < length st.links
  low = omega (arith, c.loop-link-test.true, c.link_count-link-end.ensures)

  few : c.loop-link.link < 32
  few = omega (arith, low, links-few c.args.view.now.head.now c.args.view.now.block.now c.args.view.now.sound)

pub link_rows-queued-requires : goal.link_rows-queued-requires
link_rows-queued-requires g c = apart_of c.group-queue.ensures.grouped c.loop-link.link (few g (goal.at.link_rows-queued-requires g c).In-loop-link)

pub link_rows-recorded-requires : goal.link_rows-recorded-requires
link_rows-recorded-requires g c = apart_of c.group-record.ensures.grouped c.loop-link.link (few g (goal.at.link_rows-recorded-requires g c).In-loop-link)

pub offset_bounds-call-link : goal.offset_bounds-call-link
offset_bounds-call-link g c = omega (arith, few g (goal.at.offset_bounds-call-link g c).In-loop-link)

pub bounds-call-link : goal.bounds-call-link
bounds-call-link g c = omega (arith, few g (goal.at.bounds-call-link g c).In-loop-link)

pub taken-taken-requires-clause-some : goal.taken-taken-requires-clause-some
taken-taken-requires-clause-some g c =
    let k = per-message (shown c.args.view.now) c.requires.rest.ranged in
    (omega (arith, c.per_message-per_message.ensures, k.some), omega (arith, c.per_message-per_message.ensures, k.few))

-- its rows of the queue
module _ (g : _) (c : After-link_rows-queued g) where
  abbrev s : State
  s = shown c.args.view.now

  l-low : c.loop-link.link < length s.links
  l-low = low g (goal.at.After-link_rows-queued g c).In-loop-link

  queued-mine : Mine s s.queue c.loop-link.link c.link_rows-queued.result.now
  queued-mine =
      let v = c.args.view.now in
      rw c.link_rows-queued.ensures (mine s s.queue c.queue_links.result.now c.queue_links.ensures c.requires.rest.consistent.core.links_up c.loop-link.link l-low c.group-queue.new.rows c.group-queue.result c.group-queue.ensures.grouped (links-few v.head.now v.block.now v.sound))

  queued-own : All (λ i. (note_at s.queue i).peer ≡ peer_at s c.loop-link.link) c.link_rows-queued.result.now
  queued-own =
      let v = c.args.view.now in
      rw c.link_rows-queued.ensures (own-peer s s.queue c.queue_links.result.now c.queue_links.ensures c.requires.rest.consistent.core.links_up c.loop-link.link l-low c.group-queue.new.rows c.group-queue.result c.group-queue.ensures.grouped (links-few v.head.now v.block.now v.sound))

pub taken-taken-requires-clause-few : goal.taken-taken-requires-clause-few
taken-taken-requires-clause-few g c =
    let w = (goal.at.taken-taken-requires-clause-few g c).After-link_rows-queued in
    let v = c.args.view.now in
    omega (arith, length-map c.link_rows-queued.result.now (λ (i : ℕ). ihave_of (note_at (s g w).queue i)), ap length (queued-mine g w).mine, queued-few (peer_at (s g w) c.loop-link.link) (s g w).queue, queue-few v.head.now v.block.now v.sound)

pub note_link-requires-clause-recorded : goal.note_link-requires-clause-recorded
note_link-requires-clause-recorded g c =
    let w = (goal.at.note_link-requires-clause-recorded g c).After-link_rows-queued in
    let v = c.args.view.now in
    rw c.link_rows-recorded.ensures (mine (s g w) (s g w).dropped c.record_links.result.now c.record_links.ensures c.requires.rest.consistent.core.links_up c.loop-link.link (l-low g w) c.group-record.new.rows c.group-record.result c.group-record.ensures.grouped (links-few v.head.now v.block.now v.sound))

pub note_link-requires-clause-back : goal.note_link-requires-clause-back
note_link-requires-clause-back g c =
    let w = (goal.at.note_link-requires-clause-back g c).After-link_rows-queued in
    let rows = c.link_rows-queued.result.now in
    let n = c.taken-taken.result in
    record {
      among = All-same (λ i. i < length (s g w).queue) _ (drop n rows) (to-end n rows) (All-drop (λ i. i < length (s g w).queue) n rows (queued-mine g w).among);
      own = All-same (λ i. (note_at (s g w).queue i).peer ≡ peer_at (s g w) c.loop-link.link) _ (drop n rows) (to-end n rows) (All-drop (λ i. (note_at (s g w).queue i).peer ≡ peer_at (s g w) c.loop-link.link) n rows (queued-own g w));
      link = l-low g w;
    }

pub note_link-requires-clause-below : goal.note_link-requires-clause-below
note_link-requires-clause-below g c =
    let w = (goal.at.note_link-requires-clause-below g c).After-link_rows-queued in
    let v = c.args.view.now in
    earlier-below (held_then c.args.call.now.instant.0 (s g w)) c.args.call.now (s g w) c.requires.rest (queue-few v.head.now v.block.now v.sound) c.loop-link.link (l-low g w) c.loop-link.noted.items c.loop-link.invariant.earlier

pub loop-link-preserved : goal.loop-link-preserved
loop-link-preserved g c =
    let w = (goal.at.loop-link-preserved g c).After-link_rows-queued in
    let v = c.args.view.now in
    let held = held_then c.args.call.now.instant.0 (s g w) in
    let call = c.args.call.now in
    let few = queue-few v.head.now v.block.now v.sound in
    let l = c.loop-link.link in
    let rows = c.link_rows-queued.result.now in
    let n = c.taken-taken.result in
    let taken : n ≡ min (get_or call.rooms.now.links l 0 * k (s g w)) (length rows) = c.taken-taken.ensures ∙ ap (λ (m : ℕ). min (get_or call.rooms.now.links l 0 * m) (length rows)) c.per_message-per_message.ensures in
    let is : ihaves_at (s g w).queue (drop n rows) ≡ back held call (s g w) (peer_at (s g w) l) = back-rows held call (s g w) c.requires.rest few l (l-low g w) rows (queued-mine g w).mine n taken in
    elim c.if-taken-queued.branch [
      | then-taken-queued b ↦ rw (b.noted-is, b.found-is) (record {
        sofar = after-more held call (s g w) c.requires.rest few l (l-low g w)
            ∙ ap (λ (hs : List Ihave). add_notes held (peer_at (s g w) l) hs (after held call (s g w) l)) (sym is ∙ ap (ihaves_at (s g w).queue) (sym (to-end n rows)))
            ∙ ap (add_notes held (peer_at (s g w) l) (ihaves_at (s g w).queue (take (length rows - n) (drop n rows)))) c.loop-link.invariant.sofar
            ∙ b.note_link.ensures.noted;
        among = b.note_link.ensures.rows;
        earlier = earlier-next held call (s g w) c.requires.rest few l (l-low g w) b.note_link.new.noted.items b.note_link.ensures.upto;
        found = b.note_link.ensures.found;
        long = b.note_link.auto.found ∙ c.loop-link.invariant.long;
      })
      | else-taken-queued b ↦ rw (b.noted-is, b.found-is) (record {
        sofar = all-taken held call (s g w) c.requires.rest few l (l-low g w) rows (queued-mine g w).mine n taken (omega (arith, b.if-taken-queued.false)) ∙ c.loop-link.invariant.sofar;
        among = c.loop-link.invariant.among;
        earlier = earlier-later held call (s g w) c.requires.rest few l (l-low g w) c.loop-link.noted.items c.loop-link.invariant.earlier;
        found = c.loop-link.invariant.found;
        long = c.loop-link.invariant.long;
      })
    ]

pub returns-clause-noted : goal.returns-clause-noted
returns-clause-noted g c =
    let v = c.args.view.now in
    let s = shown v in
    sym (after-all (held_then c.args.call.now.instant.0 s) c.args.call.now s c.requires.rest (queue-few v.head.now v.block.now v.sound) c.loop-link.link (omega (arith, c.loop-link-test.false, c.link_count-link-end.ensures)))
    ∙ c.loop-link.invariant.sofar

-- what the first pass over the links is told of the rows
pub some_handed_back-requires-clause-mine : goal.some_handed_back-requires-clause-mine
some_handed_back-requires-clause-mine g c = λ l q.
    let v = c.args.view.now in
    let few = links-few v.head.now v.block.now v.sound in (
      apart_of c.group-queue.ensures.grouped l (omega (arith, q, few)),
      mine (shown v) (shown v).queue c.queue_links.result.now c.queue_links.ensures c.requires.rest.consistent.core.links_up l q c.group-queue.new.rows c.group-queue.result c.group-queue.ensures.grouped few,
    )
