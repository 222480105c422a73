use Rattle.protocol.proofs.NoNeighbourPassedOver.{no_neighbour_passed_over}
use Rattle.protocol.proofs.laws.no_neighbour_passed_over.Goals as goal

pub returns : goal.returns
returns c = no_neighbour_passed_over
