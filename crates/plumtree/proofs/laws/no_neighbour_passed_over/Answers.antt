use Rattle.plumtree.proofs.Guarantee.{guarantee}
use Rattle.plumtree.proofs.laws.no_neighbour_passed_over.Goals as goal

pub returns : goal.returns
returns c = guarantee
