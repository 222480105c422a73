-- `up_sizes` meets its contract: by whether the peer has a link.
use Rattle.steps.proofs.Words.{◌≡◌, ◌∙◌, ap, sym, not, arith, ◌+◌, is_neighbour, Sizes, sized_links, shown}
use Rattle.std.proofs.Common.{subst}
use Rattle.steps.proofs.SettledLaws.FewLaws.{Few, few-now}
use Rattle.steps.proofs.NeighborLaws.{found-neighbour, up-there, up-new}
use Rattle.steps.proofs.on_neighbor_up.up_sizes.Goals as goal
use Rattle.steps.proofs.on_neighbor_up.up_sizes.Goals.{After-is_none}

-- whether it has
near : (c : After-is_none) → not c.is_none.result ≡ is_neighbour c.args.peer (shown c.args.view.now).links
near c = sym c.is_none.ensures ∙ found-neighbour (shown c.args.view.now) c.args.peer c.find_link.result c.requires.consistent.core.links_up c.find_link.ensures

pub overflow_add-sizes : goal.overflow_add-sizes
overflow_add-sizes c =
    let v = c.args.view.now in
    omega (arith, (subst Few (sym c.sizes_now-sizes.ensures) (few-now v.head.now v.block.now v.sound)).links)

pub returns-then-is_none : goal.returns-then-is_none
returns-then-is_none c q =
    let s = shown c.args.view.now in
    ap (λ (z : Sizes). sized_links (z.links + 1) z) c.sizes_now-sizes.ensures
    ∙ up-new q c.args.peer s c.requires.consistent.core.links_up (sym (near (goal.at.returns-then-is_none c).After-is_none) ∙ ap not c.if-is_none.true)

pub returns-else-is_none : goal.returns-else-is_none
returns-else-is_none c q =
    let s = shown c.args.view.now in
    c.sizes_now-sizes.ensures ∙ up-there q c.args.peer s c.requires.consistent.core.links_up (sym (near (goal.at.returns-else-is_none c).After-is_none) ∙ ap not c.if-is_none.false)
