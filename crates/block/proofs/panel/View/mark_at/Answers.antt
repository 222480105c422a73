use Rattle.std.proofs.Common.{arith}
use Rattle.block.proofs.LinkLaws.{count-links}
use Rattle.block.proofs.panel.View.mark_at.Goals as goal

pub load_link-requires : goal.load_link-requires
load_link-requires c = let v = c.args.self.now in record { fit = (v.sound.fit, v.laid_out); there = omega (arith, c.requires, count-links v.head.now v.block.now) }
