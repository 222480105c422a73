-- `renumber::raise`: by cases, as `shifted` is.
use Rattle.std.proofs.Common.{sym, arith}
use Rattle.storage.proofs.RefsLaws.Shifts.{shifted-low, shifted-high}
use Rattle.storage.proofs.refs.renumber.raise.Goals as goal

pub returns-then-number-i : goal.returns-then-number-i
returns-then-number-i c = sym (shifted-low c.args.i c.args.number (omega arith))

pub returns : goal.returns
returns c = sym (shifted-high c.args.i c.args.number (omega arith))
