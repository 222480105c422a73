-- `on_neighbor_down` meets its contract: a neighbour goes, and of a stranger there is nothing that could go.
use Rattle.steps.proofs.Words.{◌≡◌, refl, false, is_neighbour, State, state, same-state}
use Rattle.std.proofs.Common.{subst}
use Rattle.steps.proofs.NeighborLaws.{down-away}
use Rattle.steps.proofs.on_neighbor_down.on_neighbor_down.Goals as goal

pub returns-in_default : goal.returns-in_default
returns-in_default c =
    record {
      state = down-away c.args.peer (state c.args.panel.now)
          (subst (λ (s : State). is_neighbour c.args.peer s.links ≡ false) (same-state c.args.panel.now c.view.result c.view.ensures.head c.view.ensures.block) c.in_default.ensures) c.requires.consistent;
      loan = refl;
    }
