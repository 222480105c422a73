use Rattle.plumtree.proofs.HistoriesLaws.Sheet.{commissioning-sheet-of-blocks}
use Rattle.plumtree.proofs.laws.alike_blocks_answer_alike.Goals as goal

pub returns : goal.returns
returns c = commissioning-sheet-of-blocks
