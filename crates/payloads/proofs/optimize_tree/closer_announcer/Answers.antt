-- `closer_announcer` meets its contract: by the least announcer, and the two tests.
use Rattle.payloads.proofs.Words.{◌+◌, arith, sym, Option, id_of, announcers, hops_at, shown}
use Rattle.std.proofs.Common.{subst}
use Rattle.block.specs.declared.hops.Hop.{Hop as LinkHop}
use Rattle.payloads.specs.OptimizeTree.{nearest, NearestOf}
use Rattle.payloads.proofs.OptimizeTreeLaws.{threshold-of, announced-some, nearest-far, nearest-not, nearest-few, nearest-none}
use Rattle.payloads.proofs.optimize_tree.closer_announcer.Goals as goal
use Rattle.payloads.proofs.optimize_tree.closer_announcer.Goals.{else-hops-next-via-then-hops-next+else-next-hops, else-hops-next-via-else-hops-next}

pub returns-in_err-missing : goal.returns-in_err-missing
returns-in_err-missing c =
    let s = shown c.args.view.now in
    let t = s.settings.optimization_threshold in
    let ks = announcers (id_of c.args.id) s in
    subst (λ (o : Option LinkHop). NearestOf s (nearest t (c.args.round.0 + 1) ks) o) (sym c.from_residual.ensures) (nearest-none t (c.args.round.0 + 1) ks c.in_err-missing.ensures)

pub least_announcer-least-requires : goal.least_announcer-least-requires
least_announcer-least-requires c =
    let m = c.in_ok-missing.ensures in
    (m.below, announced-some (shown c.args.view.now) c.requires c.in_ok-missing.missing m.below)

pub returns-then-next-hops : goal.returns-then-next-hops
returns-then-next-hops c =
    let v = c.args.view.now in
    let s = shown v in
    let m = c.in_ok-missing.ensures in
    nearest-far s s.settings.optimization_threshold (c.args.round.0 + 1) (announcers (id_of c.args.id) s) (hops_at s c.in_ok-missing.missing) c.least_announcer-least.result m.same (announced-some s c.requires c.in_ok-missing.missing m.below) c.least_announcer-least.ensures
    (omega (arith, c.if-hops-next.true)) (omega (arith, c.if-next-hops.true, threshold-of v.head.now v.block.now))

pub returns-else-hops-next : goal.returns-else-hops-next
returns-else-hops-next c =
    let v = c.args.view.now in
    let s = shown v in
    let m = c.in_ok-missing.ensures in
    let t = s.settings.optimization_threshold in
    let ks = announcers (id_of c.args.id) s in
    let hs = hops_at s c.in_ok-missing.missing in
    let k = c.least_announcer-least.result in
    let some' = announced-some s c.requires c.in_ok-missing.missing m.below in
    elim c.else-hops-next.branch [
      | else-hops-next-via-then-hops-next+else-next-hops w ↦ nearest-few s t (c.args.round.0 + 1) ks hs k m.same some' c.least_announcer-least.ensures (omega (arith, w.if-next-hops.false, threshold-of v.head.now v.block.now))
      | else-hops-next-via-else-hops-next w ↦ nearest-not s t (c.args.round.0 + 1) ks hs k m.same some' c.least_announcer-least.ensures (omega (arith, w.if-hops-next.false))
    ]
