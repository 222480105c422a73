-- `move_to_front`: the part stands at the front, also where it had to be moved.
use Rattle.std.proofs.Common.{◌-◌, ap, ◌∙◌, take}
use Rattle.panel.proofs.Unreads.{part-moved}
use Rattle.panel.proofs.unread.move_to_front.Goals as goal

pub returns-then-start-gt0 : goal.returns-then-start-gt0
returns-then-start-gt0 c = ap (take (c.args.end - c.args.start)) c.copy_within.ensures.after ∙ part-moved c.args.buffer.now c.args.start c.args.end c.requires.ordered c.requires.inside
