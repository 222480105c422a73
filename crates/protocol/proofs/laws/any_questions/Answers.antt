use Rattle.protocol.proofs.AnyQuestions.{any-questions}
use Rattle.protocol.proofs.laws.any_questions.Goals as goal

pub returns : goal.returns
returns c = any-questions
