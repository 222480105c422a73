use Rattle.std.proofs.Common.{refl}
use Rattle.protocol.proofs.laws.numbers_are_the_specifications.Goals as goal

pub returns : goal.returns
returns c = record { latest = refl; last_round = refl; for_one_neighbour = refl; in_all = refl; at_a_tick = refl; between_ticks = refl }
