-- `on_neighbor_up` meets its contract: a neighbour is marked, and a new one is a link more.
use Rattle.steps.proofs.Words.{◌∙◌, keys, insert, State, linked, state, same-state}
use Rattle.std.proofs.Common.{subst}
use Rattle.storage.specs.Rows.Sorted.{Here, Between}
use Rattle.protocol.specs.Links.{link_up}
use Rattle.block.proofs.LinkLaws.{neighbour-between}
use Rattle.steps.proofs.NeighborLaws.{up-room}
use Rattle.steps.proofs.on_neighbor_up.on_neighbor_up.Goals as goal
use Rattle.steps.proofs.on_neighbor_up.on_neighbor_up.Goals.{In-Ok}

here : (c : In-Ok) → Here (keys (state c.args.panel.now).links) c.args.peer c.in-Ok.link
here c =
    subst (λ (s : State). Here (keys s.links) c.args.peer c.in-Ok.link) (same-state c.args.panel.now c.view.result c.view.ensures.head c.view.ensures.block) c.in-Ok.ensures

pub insert_link-requires-clause-room : goal.insert_link-requires-clause-room
insert_link-requires-clause-room c =
    let s = state c.args.panel.now in
    up-room c.args.quiet c.args.peer s c.requires.rest.consistent.core.links_up
    (neighbour-between c.args.peer c.in-Err.number s.links (subst (λ (s : State). Between (keys s.links) c.args.peer c.in-Err.number) (same-state c.args.panel.now c.view.result c.view.ensures.head c.view.ensures.block) c.in-Err.ensures))
    c.requires.fits

pub returns-in-Ok : goal.returns-in-Ok
unfolding link_up
returns-in-Ok c =
    let s = state c.args.panel.now in
    let h = here (goal.at.returns-in-Ok c).In-Ok in
    record { state = c.put_mark.ensures.state ∙ (λ k. linked (insert (h.same k) (c.up_mark-mark.ensures k)) s); loan = c.put_mark.ensures.loan }

pub returns-in-Err : goal.returns-in-Err
unfolding link_up
returns-in-Err c =
    let s = state c.args.panel.now in
    record { state = c.insert_link.ensures.state ∙ (λ k. linked (insert c.args.peer (c.up_mark-mark.ensures k)) s); loan = c.insert_link.ensures.loan }
