use Rattle.payloads.proofs.Words.{◌≡◌, ◌+◌, ◌<◌, ◌∙◌, ap, sym, length, arith, [], ◌∷◌, Bool, true, false, get_or, ltb, length-append, lt-ltb, le-ltb, id_of, shown, links-few, links_of, AllBelow, below-wider}
use Rattle.std.proofs.Common.{subst}
use Rattle.payloads.proofs.EagerLaws.ScanLaws.{wants}
use Rattle.payloads.proofs.EagerPushLaws.NoteLaws.{Noted, none-back, noted-none, noted-more, noted-full, noted-pass, noted-all}
use Rattle.payloads.proofs.eager_push.notes.to_note.Goals as goal
use Rattle.payloads.proofs.eager_push.notes.to_note.Goals.{then-marks-link-lt-MAX_DROPPED_PER_PEER+then-recorded-lt-MAX_DROPPED, else-marks-link-lt-MAX_DROPPED_PER_PEER, else-marks-link-lt-MAX_DROPPED_PER_PEER-via-then-marks-link-lt-MAX_DROPPED_PER_PEER+else-recorded-lt-MAX_DROPPED, else-marks-link-lt-MAX_DROPPED_PER_PEER-via-else-marks-link-lt-MAX_DROPPED_PER_PEER}

pub loop-link-init : goal.loop-link-init
loop-link-init c =
    let s = shown c.args.view.now in
    record {
      below = c.none-noted.ensures.below;
      recorded = omega (arith, c.record_len-recorded.ensures.long, ap length c.none-noted.ensures.none);
      noted = subst (Noted c.args.call.now c.args.to (id_of c.args.id) s 0) (sym c.none-noted.ensures.none) (noted-none c.args.call.now c.args.to (id_of c.args.id) s c.requires.0);
    }

pub bounds-marks-link : goal.bounds-marks-link
bounds-marks-link c = omega (arith, c.loop-link-test.true, c.link_count-link-end.ensures, links-few c.args.view.now.head.now c.args.view.now.block.now c.args.view.now.sound)

pub offset_bounds-marks-link : goal.offset_bounds-marks-link
offset_bounds-marks-link c = omega (arith, c.loop-link-test.true, c.link_count-link-end.ensures, links-few c.args.view.now.head.now c.args.view.now.block.now c.args.view.now.sound)

pub with-noted-requires : goal.with-noted-requires
with-noted-requires c = (
  c.loop-link.invariant.below,
  omega (arith, c.loop-link-test.true, c.link_count-link-end.ensures, links-few c.args.view.now.head.now c.args.view.now.block.now c.args.view.now.sound),
)

pub loop-link-preserved : goal.loop-link-preserved
loop-link-preserved c =
    let call = c.args.call.now in
    let to = c.args.to in
    let id = id_of c.args.id in
    let s = shown c.args.view.now in
    let l = c.loop-link in
    let i = l.invariant in
    let ls = links_of l.noted in
    let q : l.link < length s.links = omega (arith, c.loop-link-test.true, c.link_count-link-end.ensures) in
    let all = wants to call.rooms.now.links id s (length s.links) c.first_marks.result c.marks_after-marks.result c.first_marks.ensures c.marks_after-marks.ensures in
    let is = λ (b : Bool). λ (e : ltb (get_or c.marks_after-marks.result l.link 0) 256 ≡ b). sym (all.each l.link q) ∙ e in
    elim c.if-marks-link-lt-MAX_DROPPED_PER_PEER.branch [
      | then-marks-link-lt-MAX_DROPPED_PER_PEER+then-recorded-lt-MAX_DROPPED w ↦ rw (w.noted-is, w.recorded-is) (record {
        below = w.with-noted.ensures.below;
        recorded = omega (arith, i.recorded, ap length w.with-noted.ensures.more, length-append ls (l.link ∷ []));
        noted = subst (Noted call to id s (l.link + 1)) (sym w.with-noted.ensures.more)
            (noted-more call to id s c.requires.0 l.link ls i.noted q (is true (lt-ltb _ 256 w.if-marks-link-lt-MAX_DROPPED_PER_PEER.true)) (omega (arith, i.recorded, w.if-recorded-lt-MAX_DROPPED.true)));
      })
      | else-marks-link-lt-MAX_DROPPED_PER_PEER w ↦ rw (w.noted-is, w.recorded-is) (record {
        below = below-wider l.noted l.link (l.link + 1) i.below (omega arith);
        recorded = i.recorded;
        noted = elim w.else-marks-link-lt-MAX_DROPPED_PER_PEER.branch [
          | else-marks-link-lt-MAX_DROPPED_PER_PEER-via-then-marks-link-lt-MAX_DROPPED_PER_PEER+else-recorded-lt-MAX_DROPPED u ↦ noted-full call to id s c.requires.0 l.link ls i.noted q
              (omega (arith, i.recorded, u.if-recorded-lt-MAX_DROPPED.false))
          | else-marks-link-lt-MAX_DROPPED_PER_PEER-via-else-marks-link-lt-MAX_DROPPED_PER_PEER u ↦ noted-pass call to id s c.requires.0 l.link ls i.noted q
              (is false (le-ltb _ 256 u.if-marks-link-lt-MAX_DROPPED_PER_PEER.false))
        ];
      })
    ]

pub returns : goal.returns
returns c =
    let v = c.args.view.now in
    let l = c.loop-link in
    let e : l.link ≡ length (shown v).links = omega (arith, c.loop-link-test.false, l.auto.link-end, c.link_count-link-end.ensures) in
    record {
      below = subst (AllBelow l.noted) e l.invariant.below;
      same = noted-all c.args.call.now c.args.to (id_of c.args.id) (shown v) c.requires.0 l.link (links_of l.noted) l.invariant.noted e (links-few v.head.now v.block.now v.sound) c.requires.1;
    }

-- nothing is handed back
pub returns-then-not-is_handed_back : goal.returns-then-not-is_handed_back
returns-then-not-is_handed_back c =
    none-back c.args.call.now c.args.to (shown c.args.view.now) (id_of c.args.id) c.none-noted.result c.none-noted.ensures.none c.none-noted.ensures.below (c.is_handed_back.ensures c.if-not-is_handed_back.true)
