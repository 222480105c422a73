use Rattle.payloads.proofs.Words.{◌≡◌, sym, ap, ◌∙◌, arith, Bool, ℕ, ◌<◌, length-set, if◌then◌else◌, links-few}
use Rattle.payloads.specs.Eager.Targets.{hands_back}
use Rattle.payloads.proofs.EagerLaws.ScanLaws.{set_more}
use Rattle.payloads.proofs.eager_push.notes.first_marks.Goals as goal
use Rattle.payloads.proofs.eager_push.notes.first_marks.Goals.{then-back, else-back}

pub offset_bounds-marks-link : goal.offset_bounds-marks-link
offset_bounds-marks-link c = omega (arith, c.loop-link-test.true, c.link_count-link-end.ensures, links-few c.args.view.now.head.now c.args.view.now.block.now c.args.view.now.sound)

pub bounds-marks-link : goal.bounds-marks-link
bounds-marks-link c = omega (arith, c.loop-link-test.true, c.link_count-link-end.ensures, links-few c.args.view.now.head.now c.args.view.now.block.now c.args.view.now.sound)

pub loop-link-preserved : goal.loop-link-preserved
loop-link-preserved c =
    let l = c.loop-link in
    let back : ℕ → Bool = λ k. hands_back c.args.to c.args.call.now.rooms.now.links k in
    let b : l.link < 32 = omega (arith, c.loop-link-test.true, c.link_count-link-end.ensures, links-few c.args.view.now.head.now c.args.view.now.block.now c.args.view.now.sound) in
    record {
      each = set_more (λ (k x : ℕ). x ≡ (if back k then 0 else 256)) l.marks l.link c.if-back.marks (omega (arith, l.invariant.long, b)) l.invariant.each
          (elim c.if-back.branch [
            | then-back w ↦ w.marks-is ∙ sym (ap (λ (b : Bool). if b then 0 else 256) (sym c.hands_back-back.ensures ∙ w.if-back.true))
            | else-back w ↦ w.marks-is ∙ sym (ap (λ (b : Bool). if b then 0 else 256) (sym c.hands_back-back.ensures ∙ w.if-back.false))
          ]);
      long = length-set l.marks l.link c.if-back.marks ∙ l.invariant.long;
    }

pub hands_back-back-requires : goal.hands_back-back-requires
hands_back-back-requires c = omega (arith, c.loop-link-test.true, c.link_count-link-end.ensures, links-few c.args.view.now.head.now c.args.view.now.block.now c.args.view.now.sound)
