-- `targets` meets its contract: a link more where the push goes there.
use Rattle.payloads.proofs.Words.{◌+◌, ◌<◌, arith, sym, length, keys, shown, peers_at, LinkSet}
use Rattle.std.proofs.Common.{subst}
use Rattle.payloads.proofs.EagerPushLaws.TargetLaws.{few_links}
use Rattle.payloads.proofs.EagerLaws.TargetLaws.{TargetsSofar, sofar-none, sofar-in, sofar-out, sofar-all}
use Rattle.payloads.proofs.eager_push.target.targets.Goals as goal
use Rattle.payloads.proofs.eager_push.target.targets.Goals.{then-is_target, else-is_target}

pub loop-link-init : goal.loop-link-init
loop-link-init c =
    let s = shown c.args.view.now in
    sofar-none c.args.sender (keys (peers_at c.args.grafted s)) s c.none-to.result c.none-to.ensures.none c.none-to.ensures.below

pub is_target-requires : goal.is_target-requires
is_target-requires c = (c.requires.0, c.requires.1, omega (arith, c.loop-link-test.true, c.link_count-link-end.ensures))

pub with-to-requires : goal.with-to-requires
with-to-requires c =
    let v = c.args.view.now in
    (c.loop-link.invariant.below, omega (arith, c.loop-link-test.true, c.link_count-link-end.ensures, few_links v.head.now v.block.now v.sound))

pub loop-link-preserved : goal.loop-link-preserved
loop-link-preserved c =
    let s = shown c.args.view.now in
    let skip = keys (peers_at c.args.grafted s) in
    let l = c.loop-link in
    let q : l.link < length s.links = omega (arith, c.loop-link-test.true, c.link_count-link-end.ensures) in
    elim c.if-is_target.branch [
      | then-is_target w ↦ subst (λ (x : LinkSet). TargetsSofar c.args.sender skip s (l.link + 1) x) (sym w.to-is)
          (sofar-in c.args.sender skip s l.link q l.to l.invariant c.is_target.result c.is_target.ensures w.if-is_target.true w.with-to.result w.with-to.ensures.more w.with-to.ensures.below)
      | else-is_target w ↦ subst (λ (x : LinkSet). TargetsSofar c.args.sender skip s (l.link + 1) x) (sym w.to-is)
          (sofar-out c.args.sender skip s l.link q l.to l.invariant c.is_target.result c.is_target.ensures w.if-is_target.false)
    ]

pub returns : goal.returns
returns c =
    let s = shown c.args.view.now in
    sofar-all c.args.sender (keys (peers_at c.args.grafted s)) s c.loop-link.link c.loop-link.to (omega (arith, c.loop-link-test.false, c.loop-link.auto.link-end, c.link_count-link-end.ensures)) c.loop-link.invariant
