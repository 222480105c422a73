-- The numbers of the settled state, and what a message that is taken in changes of them.
use Rattle.steps.proofs.Words.{sym, arith, not, id_of, settled, shown}
use Rattle.std.proofs.Math.Path.{subst}
use Rattle.steps.specs.Shared.{sizes_value}
use Rattle.steps.proofs.SettledLaws.FewLaws.{Few, few-then}
use Rattle.steps.proofs.TakeInLaws.{byte-small, settled-rest, taken-over, taken-new, old-least}
use Rattle.steps.proofs.take_in.taken_sizes.Goals as goal
use Rattle.steps.proofs.take_in.taken_sizes.Goals.{After-sizes_then-sizes}

few : (c : After-sizes_then-sizes) → Few (sizes_value c.sizes_then-sizes.result)
few c = subst Few (sym c.sizes_then-sizes.ensures) (few-then c.args.call.now.instant.0 c.args.view.now.head.now c.args.view.now.block.now c.args.view.now.sound)

pub overflow_add-sizes : goal.overflow_add-sizes
overflow_add-sizes c = omega (arith, (few (goal.at.overflow_add-sizes c).After-sizes_then-sizes).received, byte-small (not c.is_received_then.result))

pub overflow_add-sizes-2 : goal.overflow_add-sizes-2
overflow_add-sizes-2 c = omega (arith, (few (goal.at.overflow_add-sizes-2 c).After-sizes_then-sizes).received_expiry)

pub overflow_add-sizes-3 : goal.overflow_add-sizes-3
overflow_add-sizes-3 c = omega (arith, (few (goal.at.overflow_add-sizes-3 c).After-sizes_then-sizes).cached_expiry)

pub overflow_sub-result : goal.overflow_sub-result
overflow_sub-result c = old-least (id_of c.args.id) _ (settled c.args.call.now.instant.0 (shown c.args.view.now)) c.sizes_then-sizes.result c.sizes_then-sizes.ensures c.in-Some.ensures

pub overflow_add-result : goal.overflow_add-result
overflow_add-result c = omega (arith, (few (goal.at.overflow_add-result c).After-sizes_then-sizes).content)

pub overflow_add-result-in-None : goal.overflow_add-result-in-None
overflow_add-result-in-None c = omega (arith, (few (goal.at.overflow_add-result-in-None c).After-sizes_then-sizes).cached)

pub overflow_add-result-in-None-2 : goal.overflow_add-result-in-None-2
overflow_add-result-in-None-2 c = omega (arith, (few (goal.at.overflow_add-result-in-None-2 c).After-sizes_then-sizes).content)

pub returns-in-Some : goal.returns-in-Some
returns-in-Some c round =
    let now = c.args.call.now.instant.0 in
    let s = shown c.args.view.now in
    taken-over now (id_of c.args.id) c.args.content.now round (settled now s) (settled-rest now s c.requires) c.sizes_then-sizes.result c.sizes_then-sizes.ensures c.is_received_then.result c.is_received_then.ensures _ c.in-Some.ensures

pub returns-in-None : goal.returns-in-None
returns-in-None c round =
    let now = c.args.call.now.instant.0 in
    let s = shown c.args.view.now in
    taken-new now (id_of c.args.id) c.args.content.now round (settled now s) (settled-rest now s c.requires) c.sizes_then-sizes.result c.sizes_then-sizes.ensures c.is_received_then.result c.is_received_then.ensures c.in-None.ensures
