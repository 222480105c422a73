use Rattle.protocol.proofs.AlikeCallsLaws.LikeCalls.{commissioning-sheet}
use Rattle.protocol.proofs.laws.alike_panels_answer_alike.Goals as goal

pub returns : goal.returns
returns c = commissioning-sheet
