-- `skip`: the part begins n bytes later.
use Rattle.std.proofs.Common.{arith, ap, ◌∙◌, length, drop}
use Rattle.panel.proofs.Unreads.{length-part, part-used}
use Rattle.panel.proofs.unread.Unread.skip.Goals as goal

pub returns : goal.returns
returns c =
    let u = c.self.inside in
    let n = c.args.n in
    part-used u.buffer u.start u.end n (omega (arith, c.requires, ap length c.self.view_is, length-part u.buffer u.start u.end c.self.invariant.0 c.self.invariant.1)) ∙ ap (drop n) c.self.view_is
