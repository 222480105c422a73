-- `least_announcer` meets its contract: the least so far, and those that are left.
use Rattle.payloads.proofs.Words.{◌≡◌, ◌∙◌, ◌<◌, ◌+◌, ap, sym, arith, drop, length, get_or, List, Hop, least_from, hop, hops_at, hop_value, shown}
use Rattle.std.proofs.Common.{subst}
use Rattle.block.specs.declared.hops.Hop.{Hop as LinkHop}
use Rattle.payloads.specs.OptimizeTree.{least_of}
use Rattle.payloads.proofs.OptimizeTreeLaws.{least-begin, least-end, least-closer, least-further}
use Rattle.payloads.proofs.optimize_tree.least_announcer.Goals as goal
use Rattle.payloads.proofs.optimize_tree.least_announcer.Goals.{then-announcer-least, else-announcer-least}

pub loop-number-init : goal.loop-number-init
loop-number-init c =
    let hs : List Hop = hops_at (shown c.args.view.now) c.args.missing in
    (c.announcer-least.ensures.below, ap (λ (x : Hop). least_from x (drop 1 hs)) (sym c.announcer-least.ensures.same) ∙ least-begin hs c.requires.1)

pub loop-number-preserved : goal.loop-number-preserved
loop-number-preserved c =
    let s = shown c.args.view.now in
    let hs : List Hop = hops_at s c.args.missing in
    let n = c.loop-number.number in
    let q : n < length hs = omega (arith, c.loop-number-test.true, c.announcer_count-number-end.ensures.0) in
    let r : (get_or hs n (hop 0 0)).round ≡ c.announcer-announcer.result.round.0 = ap (λ (x : Hop). x.round) c.announcer-announcer.ensures.same in
    let kept = λ (x : LinkHop). (x.link < length s.links) × (least_from (hop_value s x) (drop (n + 1) hs) ≡ least_of hs) in
    elim c.if-announcer-least.branch [
      | then-announcer-least w ↦ subst kept (sym w.least-is) (
        c.announcer-announcer.ensures.below,
        ap (λ (x : Hop). least_from x (drop (n + 1) hs)) (sym c.announcer-announcer.ensures.same)
            ∙ least-closer (hop_value s c.loop-number.least) hs n q (omega (arith, r, w.if-announcer-least.true)) ∙ c.loop-number.invariant.1,
      )
      | else-announcer-least w ↦ subst kept (sym w.least-is) (c.loop-number.invariant.0, least-further (hop_value s c.loop-number.least) hs n q (omega (arith, r, w.if-announcer-least.false)) ∙ c.loop-number.invariant.1)
    ]

pub returns : goal.returns
returns c =
    let s = shown c.args.view.now in
    let hs : List Hop = hops_at s c.args.missing in
    record { below = c.loop-number.invariant.0; same = sym c.loop-number.invariant.1 ∙ least-end (hop_value s c.loop-number.least) hs c.loop-number.number (omega (arith, c.loop-number-test.false, c.announcer_count-number-end.ensures.0)) }
