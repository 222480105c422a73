-- `renumber::lower_one`: by cases, as `lowered` is.
use Rattle.std.proofs.Common.{sym, arith}
use Rattle.storage.proofs.RefsLaws.Lowered.{lowered-low, lowered-high}
use Rattle.storage.proofs.refs.renumber.lower_one.Goals as goal

pub returns-then-number-i : goal.returns-then-number-i
returns-then-number-i c = sym (lowered-low c.args.i c.args.number (omega arith))

pub returns : goal.returns
returns c = sym (lowered-high c.args.i c.args.number (omega arith))
