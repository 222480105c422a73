-- `numbers`: a flag stands for each number of the first i.
use Rattle.std.proofs.Common.{refl}
use Rattle.storage.proofs.RefsLaws.Flags.{seen_start}
use Rattle.storage.proofs.refs.numbers.Goals as goal

pub loop-i-init : goal.loop-i-init
loop-i-init c = seen_start _ _ _ refl
