use Rattle.plumtree.proofs.HistoriesLaws.History.{histories}
use Rattle.plumtree.proofs.laws.guarantees_follow_savings_and_returns.Goals as goal

pub returns : goal.returns
returns c = histories
