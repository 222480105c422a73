use Rattle.std.proofs.Common.{refl}
use Rattle.blake3.proofs.Sizes.{length-blake3, identifier-bytes}
use Rattle.blake3.specs.Blake3.{identifier}
use Rattle.blake3.proofs.laws.identifiers_are_the_hash.Goals as goal

pub returns : goal.returns
returns c = record { long = length-blake3; bytes = λ bs. identifier-bytes bs (identifier bs) refl }
