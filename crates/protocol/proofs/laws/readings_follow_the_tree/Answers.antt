use Rattle.protocol.proofs.TreeLaws.Lists.{readings-follow-the-tree}
use Rattle.protocol.proofs.laws.readings_follow_the_tree.Goals as goal

pub returns : goal.returns
returns c = readings-follow-the-tree
