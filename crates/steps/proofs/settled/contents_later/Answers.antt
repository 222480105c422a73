-- `contents_later`: the bytes of the first i contents that expire later.
use Rattle.std.proofs.Common.{◌∙◌, arith, lt-ltb, le-ltb}
use Rattle.block.specs.View.{state_of}
use Rattle.block.proofs.CachesLaws.CachedLaws.{count-cached}
use Rattle.steps.proofs.SettledLaws.SizeLaws.{bytes-start, bytes-later, bytes-gone, bytes-end}
use Rattle.steps.proofs.settled.contents_later.Goals as goal
use Rattle.steps.proofs.settled.contents_later.Goals.{then-instant-expires, else-instant-expires}

pub cached_expires-expires-requires : goal.cached_expires-expires-requires
cached_expires-expires-requires c =
    let v = c.args.view.now in
    omega (arith, c.loop-i-test.true, count-cached v.head.now v.block.now v.sound.fit)

pub loop-i-init : goal.loop-i-init
loop-i-init c =
    let v = c.args.view.now in
    (bytes-start c.args.instant.0 v.head.now v.block.now v.sound, omega arith)

pub loop-i-preserved : goal.loop-i-preserved
unfolding state_of
loop-i-preserved c =
    let l = c.loop-i in
    let q = c.loop-i-test.true in
    let a = c.args in
    let v = a.view.now in
    elim c.if-instant-expires.branch [
      | then-instant-expires w ↦ (
        w.total-is ∙ bytes-later a.instant.0 v.head.now v.block.now v.sound l.i l.total q l.invariant.0 c.cached_expires-expires.result.0 c.cached_expires-expires.ensures w.cached_content.result.now w.cached_content.ensures.content (lt-ltb _ _ w.if-instant-expires.true),
        omega (arith, w.total-is, l.invariant.1, w.cached_content.ensures.few, v.sound.fit.ceilings.B),
      )
      | else-instant-expires w ↦ (
        w.total-is ∙ bytes-gone a.instant.0 v.head.now v.block.now v.sound l.i l.total q l.invariant.0 c.cached_expires-expires.result.0 c.cached_expires-expires.ensures (le-ltb _ _ w.if-instant-expires.false),
        omega (arith, w.total-is, l.invariant.1),
      )
    ]

pub returns : goal.returns
returns c =
    let l = c.loop-i in
    let v = c.args.view.now in
    bytes-end c.args.instant.0 v.head.now v.block.now v.sound l.i l.total c.loop-i-test.false l.invariant.0
