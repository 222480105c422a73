use Rattle.std.proofs.Common.{refl}
use Rattle.steps.specs.LinkSets.{has_link, links_below}
use Rattle.steps.proofs.link_set.LinkSet.none.Goals as goal

pub returns-clause-none : goal.returns-clause-none
unfolding has_link links_below
returns-clause-none c = refl
