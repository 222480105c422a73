-- `number_size`: a number takes at most ten bytes.
use Rattle.std.proofs.Common.{arith}
use Rattle.postcard.specs.Number.{number_length}
use Rattle.postcard.proofs.Lengths.{number-few}
use Rattle.wire.proofs.serialized_size.number_size.Goals as goal

pub size-requires : goal.size-requires
unfolding number_length
size-requires c = omega (arith, number-few c.args.v)
