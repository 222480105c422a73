use Rattle.std.proofs.Common.{refl}
use Rattle.blake3.proofs.WordOrder.{row-one, later-rows, permutations}
use Rattle.blake3.proofs.laws.word_order_is_the_specifications.Goals as goal

pub returns : goal.returns
returns c = record { long = refl; row_one = row-one; later_rows = later-rows; permutations = permutations }
