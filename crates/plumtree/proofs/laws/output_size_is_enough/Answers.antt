use Rattle.plumtree.proofs.OutputSizeLaws.{output-size-of-blocks}
use Rattle.plumtree.proofs.laws.output_size_is_enough.Goals as goal

pub returns : goal.returns
returns c = output-size-of-blocks
