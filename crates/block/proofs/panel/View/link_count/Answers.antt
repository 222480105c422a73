use Rattle.std.proofs.Common.{sym}
use Rattle.block.proofs.LinkLaws.{count-links}
use Rattle.block.proofs.panel.View.link_count.Goals as goal

pub returns : goal.returns
returns c = let v = c.args.self.now in sym (count-links v.head.now v.block.now)
