-- `shift`: by cases, as `shifted` is.
use Rattle.std.proofs.Common.{sym, arith}
use Rattle.storage.proofs.RefsLaws.Shifts.{shifted-low, shifted-high}
use Rattle.storage.proofs.refs.shift.Goals as goal

pub returns-then-place-i : goal.returns-then-place-i
returns-then-place-i c = sym (shifted-low c.args.i c.args.place (omega arith))

pub returns : goal.returns
returns c = sym (shifted-high c.args.i c.args.place (omega arith))
