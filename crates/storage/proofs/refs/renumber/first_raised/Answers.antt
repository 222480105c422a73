-- `renumber::first_raised`: every number below 255 is below both.
use Rattle.std.proofs.Common.{sym, ◌∙◌, arith}
use Rattle.storage.proofs.RefsLaws.Shifts.{shifted-low}
use Rattle.storage.proofs.refs.renumber.first_raised.Goals as goal

pub returns-else-i-lt255 : goal.returns-else-i-lt255
returns-else-i-lt255 c number h = shifted-low 255 number h ∙ sym (shifted-low c.args.i number (omega (arith, c.if-i-lt255.false, h)))
