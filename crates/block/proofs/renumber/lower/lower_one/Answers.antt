-- `lower::lower_one`: by cases, as `lowered` is.
use Rattle.block.proofs.Words.{sym, ◌∙◌, arith}
use Rattle.storage.proofs.RefsLaws.Lowered.{lowered-low, lowered-high}
use Rattle.block.proofs.renumber.lower.lower_one.Goals as goal

pub returns-then-number-i : goal.returns-then-number-i
returns-then-number-i c = sym (lowered-low c.args.i c.args.number (omega arith))

pub returns : goal.returns
returns c = c.saturating_sub.ensures ∙ sym (lowered-high c.args.i c.args.number (omega arith))
