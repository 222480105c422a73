-- Fewer rows counted are the first notes.
use Rattle.std.proofs.Common.{refl, ◌≤◌, arith}
use Rattle.block.proofs.NoteLaws.{count-dropped}
use Rattle.block.proofs.CutLaws.{cut-goes}
use Rattle.block.proofs.panel.Panel.truncate_dropped.Goals as goal
use Rattle.block.proofs.panel.Panel.truncate_dropped.Goals.{Start}

few : (c : Start) → c.args.rows ≤ c.args.self.now.head.live.dropped
few c = let p = c.args.self.now in omega (arith, c.requires, count-dropped p.head p.block.now p.sound)

pub invariant_of-self : goal.invariant_of-self
invariant_of-self c = let p = c.args.self.now in (tt, tt, ((cut-goes p.head p.block.now p.sound c.args.rows (few (goal.at.invariant_of-self c).Start)).sound, (p.laid_out, tt)))

pub returns : goal.returns
returns c = let p = c.args.self.now in record { state = (cut-goes p.head p.block.now p.sound c.args.rows (few (goal.at.returns c).Start)).state; loan = refl }
