use Rattle.payloads.proofs.Words.{◌≡◌, sym, ◌∙◌, ap, arith, Bool, true, false, ◌<◌, length, get_or, eq-eqb, eqb, length-set, id_of, Note, peer_at, links-few, shown}
use Rattle.block.specs.NoteSteps.{note}
use Rattle.block.proofs.LinkLaws.{count-links}
use Rattle.payloads.proofs.EagerLaws.ScanLaws.{seen_start, seen_end, seen-passed, seen-set, seen_same, seen_one}
use Rattle.payloads.proofs.eager_push.notes.marks_after.Goals as goal
use Rattle.payloads.proofs.eager_push.notes.marks_after.Goals.{then-marks-link-lt-MAX_DROPPED_PER_PEER, then-same, else-same, else-marks-link-lt-MAX_DROPPED_PER_PEER}

pub loop-row-init : goal.loop-row-init
loop-row-init c = (c.requires.1, seen_start c.args.view.now.head.now c.args.view.now.block.now c.requires.0.consistent.core.links_up (id_of c.args.id) c.args.from)

pub bounds-marks-link : goal.bounds-marks-link
bounds-marks-link c = let v = c.args.view.now in omega (arith, c.note_link-link.ensures.below, links-few v.head.now v.block.now v.sound)

pub offset_bounds-marks-link : goal.offset_bounds-marks-link
offset_bounds-marks-link c = let v = c.args.view.now in omega (arith, c.note_link-link.ensures.below, links-few v.head.now v.block.now v.sound)

pub bounds-marks-link-then-marks-link-lt-MAX_DROPPED_PER_PEER : goal.bounds-marks-link-then-marks-link-lt-MAX_DROPPED_PER_PEER
bounds-marks-link-then-marks-link-lt-MAX_DROPPED_PER_PEER c = let v = c.args.view.now in omega (arith, c.note_link-link.ensures.below, links-few v.head.now v.block.now v.sound)

pub offset_bounds-marks-link-then-marks-link-lt-MAX_DROPPED_PER_PEER : goal.offset_bounds-marks-link-then-marks-link-lt-MAX_DROPPED_PER_PEER
offset_bounds-marks-link-then-marks-link-lt-MAX_DROPPED_PER_PEER c = let v = c.args.view.now in omega (arith, c.note_link-link.ensures.below, links-few v.head.now v.block.now v.sound)

pub bounds-marks-link-else-same : goal.bounds-marks-link-else-same
bounds-marks-link-else-same c = let v = c.args.view.now in omega (arith, c.note_link-link.ensures.below, links-few v.head.now v.block.now v.sound)

pub offset_bounds-marks-link-else-same : goal.offset_bounds-marks-link-else-same
offset_bounds-marks-link-else-same c = let v = c.args.view.now in omega (arith, c.note_link-link.ensures.below, links-few v.head.now v.block.now v.sound)

pub loop-row-preserved : goal.loop-row-preserved
loop-row-preserved c =
    let v = c.args.view.now in
    let s = shown v in
    let up = c.requires.0.consistent.core.links_up in
    let id = id_of c.args.id in
    let l = c.loop-row in
    let x = c.note_link-link.result in
    let m = get_or l.marks x 0 in
    let e : Note = get_or s.dropped l.row (note 0 0 0) in
    let k = c.note_link-link.ensures in
    let here : l.row < length s.dropped = omega (arith, c.record_len-row-end.ensures.long, c.loop-row-test.true) in
    let below : x < v.head.now.live.links = omega (arith, k.below, count-links v.head.now v.block.now) in
    let long : x < length l.marks = omega (arith, k.below, links-few v.head.now v.block.now v.sound, l.invariant.0) in
    let is-for : eqb e.peer (peer_at s x) ≡ true = eq-eqb e.peer (peer_at s x) k.peer in
    elim c.if-marks-link-lt-MAX_DROPPED_PER_PEER.branch [
      | then-marks-link-lt-MAX_DROPPED_PER_PEER w ↦
          let same = λ (b : Bool). λ (q : w.eq-same.result ≡ b). ap (λ (n : Note). eqb n.id id) w.recorded.ensures.same ∙ sym w.eq-same.ensures ∙ q in
          rw w.marks-is (
            length-set l.marks x w.if-same.marks ∙ l.invariant.0,
            seen-set v.head.now v.block.now up id c.args.from l.marks l.row x here below k.peer l.invariant.1 w.if-same.marks long
                (elim w.if-same.branch [
                  | then-same u ↦ u.marks-is ∙ sym (seen_same (peer_at s x) id e m w.if-marks-link-lt-MAX_DROPPED_PER_PEER.true is-for (same true u.if-same.true))
                  | else-same u ↦ u.marks-is ∙ sym (seen_one (peer_at s x) id e m w.if-marks-link-lt-MAX_DROPPED_PER_PEER.true is-for (same false u.if-same.false))
                ]),
          )
      | else-marks-link-lt-MAX_DROPPED_PER_PEER w ↦ rw w.marks-is (
        l.invariant.0,
        seen-passed v.head.now v.block.now up id c.args.from l.marks l.row x here below k.peer l.invariant.1 w.if-marks-link-lt-MAX_DROPPED_PER_PEER.false,
      )
    ]

pub returns : goal.returns
returns c =
    let v = c.args.view.now in
    let all = seen_end v.head.now v.block.now c.requires.0.consistent.core.links_up (id_of c.args.id) c.args.from c.loop-row.marks c.loop-row.row (omega (arith, c.record_len-row-end.ensures.long, c.loop-row-test.false)) c.loop-row.invariant.1 in
    record { each = λ l q. all.each l (omega (arith, q, count-links v.head.now v.block.now)) }
