use Rattle.std.proofs.Common.{refl}
use Rattle.block.specs.Views.{links_left}
use Rattle.block.proofs.ViewLaws.{few-links}
use Rattle.block.proofs.panel.View.links.Goals as goal

pub returns : goal.returns
unfolding links_left
returns c = let v = c.args.self.now in record { items = refl; few = few-links v.head.now v.block.now v.sound }
