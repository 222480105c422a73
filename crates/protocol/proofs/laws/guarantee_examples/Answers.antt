use Rattle.protocol.proofs.Examples.{examples}
use Rattle.protocol.proofs.SizeExamples.{size-examples}
use Rattle.protocol.proofs.MetFullExample.{met-full-example}
use Rattle.protocol.proofs.TreeLaws.Examples.{tree-examples}
use Rattle.protocol.proofs.QuietExamples.{quiet-examples}
use Rattle.protocol.proofs.ScreenExamples.{screen-examples}
use Rattle.protocol.proofs.FourTicksExamples.{four-ticks-examples}
use Rattle.protocol.proofs.laws.guarantee_examples.Goals as goal

pub returns : goal.returns
returns c = record { tree = tree-examples; lists = examples; met_full = met-full-example; sizes = size-examples; quiet = quiet-examples; screen = screen-examples; four_ticks = four-ticks-examples }
