use Rattle.payloads.proofs.Words.{sym, ◌∙◌, arith, shown, links-few}
use Rattle.payloads.proofs.EagerPushLaws.NoteLaws.{no-backs-start, no-backs-more, no-backs-all}
use Rattle.payloads.proofs.eager_push.notes.is_handed_back.Goals as goal

pub hands_back-requires : goal.hands_back-requires
hands_back-requires c = omega (arith, c.loop-link-test.true, c.link_count-link-end.ensures, links-few c.args.view.now.head.now c.args.view.now.block.now c.args.view.now.sound)

pub loop-link-init : goal.loop-link-init
loop-link-init c = no-backs-start c.args.call.now c.args.to (shown c.args.view.now)

pub loop-link-preserved : goal.loop-link-preserved
loop-link-preserved c =
    no-backs-more c.args.call.now c.args.to (shown c.args.view.now) c.requires.0 c.loop-link.link (omega (arith, c.loop-link-test.true, c.link_count-link-end.ensures)) (sym c.hands_back.ensures ∙ c.if-hands_back.false) c.loop-link.invariant

pub returns : goal.returns
returns c = λ _.
    no-backs-all c.args.call.now c.args.to (shown c.args.view.now) c.loop-link.link (omega (arith, c.loop-link-test.false, c.loop-link.auto.link-end, c.link_count-link-end.ensures))
    (links-few c.args.view.now.head.now c.args.view.now.block.now c.args.view.now.sound) c.requires.1 c.loop-link.invariant
