-- `push_sends` meets its contract: a send more where the link is a target, and `back` where it was handed back.
use Rattle.payloads.proofs.Words.{arith, ap, ◌∙◌, ◌<◌, length, shown}
use Rattle.payloads.proofs.EagerPushLaws.TargetLaws.{few_links}
use Rattle.payloads.proofs.EagerPushLaws.SendLaws.{sends-start, sends-done, sends-skip, sends-more, back-start, back-done, back-skip, back-more}
use Rattle.payloads.proofs.eager_push.sends.push_sends.Goals as goal
use Rattle.payloads.proofs.eager_push.sends.push_sends.Goals.{then-contains, else-contains}

pub loop-link-init : goal.loop-link-init
loop-link-init g c =
    let a = c.args in
    record {
      sent = sends-start a.call.now a.to a.message.now (shown a.view.now) (g.S.Sink.intake a.out.now);
      back = back-start a.call.now a.to a.message.now (shown a.view.now);
    }

pub contains-requires : goal.contains-requires
contains-requires g c =
    let v = c.args.view.now in
    omega (arith, c.loop-link-test.true, c.link_count-link-end.ensures, few_links v.head.now v.block.now v.sound)

pub takes-taken-requires : goal.takes-taken-requires
takes-taken-requires g c =
    let v = c.args.view.now in
    omega (arith, c.loop-link-test.true, c.link_count-link-end.ensures, few_links v.head.now v.block.now v.sound)

pub loop-link-preserved : goal.loop-link-preserved
loop-link-preserved g c = elim c.if-contains.branch [
  | then-contains w ↦
      let a = c.args in
      let q : c.loop-link.link < length (shown a.view.now).links = omega (arith, c.loop-link-test.true, c.link_count-link-end.ensures) in
      record {
        sent = ap g.S.Sink.intake w.out-is ∙ sends-more a.call.now a.to a.message.now (shown a.view.now) c.loop-link.link q c.requires.rest.0
            c.contains.result c.contains.ensures w.if-contains.true w.link.result w.link.ensures w.takes-taken.result w.takes-taken.ensures _ _ _ c.loop-link.invariant.sent w.encode.ensures;
        back = w.back-is ∙ back-more a.call.now a.to a.message.now (shown a.view.now) c.requires.rest.0 c.loop-link.link q c.contains.result c.contains.ensures w.if-contains.true w.takes-taken.result w.takes-taken.ensures _ c.loop-link.invariant.back;
      }
  | else-contains w ↦
      let a = c.args in
      let q : c.loop-link.link < length (shown a.view.now).links = omega (arith, c.loop-link-test.true, c.link_count-link-end.ensures) in
      record {
        sent = ap g.S.Sink.intake w.out-is ∙ sends-skip a.call.now a.to a.message.now (shown a.view.now) c.loop-link.link q c.contains.result c.contains.ensures w.if-contains.false _ _ c.loop-link.invariant.sent;
        back = w.back-is ∙ back-skip a.call.now a.to a.message.now (shown a.view.now) c.requires.rest.0 c.loop-link.link q c.contains.result c.contains.ensures w.if-contains.false _ c.loop-link.invariant.back;
      }
]

pub returns-clause-sent : goal.returns-clause-sent
returns-clause-sent g c =
    let a = c.args in
    sends-done a.call.now a.to a.message.now (shown a.view.now) c.loop-link.link (omega (arith, c.loop-link-test.false, c.loop-link.auto.link-end, c.link_count-link-end.ensures)) (few_links a.view.now.head.now a.view.now.block.now a.view.now.sound) c.requires.rest.1 _ _ c.loop-link.invariant.sent

pub returns-clause-back : goal.returns-clause-back
returns-clause-back g c =
    let a = c.args in
    back-done a.call.now a.to a.message.now (shown a.view.now) c.loop-link.link (omega (arith, c.loop-link-test.false, c.loop-link.auto.link-end, c.link_count-link-end.ensures)) (few_links a.view.now.head.now a.view.now.block.now a.view.now.sound) c.requires.rest.1 _ c.loop-link.invariant.back
