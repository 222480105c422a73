use Rattle.output_size.proofs.Lists.{output-size}
use Rattle.output_size.proofs.laws.output_size_is_enough.Goals as goal

pub returns : goal.returns
returns c = output-size
