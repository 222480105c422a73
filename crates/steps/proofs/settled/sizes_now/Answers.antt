-- `sizes_now`: the header's numbers are those of the state.
use Rattle.std.proofs.Common.{refl}
use Rattle.steps.proofs.SettledLaws.SizeLaws.{sizes-live}
use Rattle.steps.proofs.settled.sizes_now.Goals as goal

pub returns : goal.returns
returns c = let v = c.args.view.now in sizes-live v.head.now v.block.now v.sound _ refl refl refl refl refl refl refl refl refl refl refl refl
