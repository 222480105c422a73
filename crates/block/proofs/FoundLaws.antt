-- What a look-up in the links, the missing and the grafted messages answers.
-- Assumes nothing.
use Rattle.block.proofs.Words.{◌≡◌, ℕ, refl, ap, arith, true, [], eqb, Result, Ok, Err, Option, Some, None, ascending, entry, keys, FoundIs, up_of, lookup-here, lookup-between, State}
use Rattle.std.specs.Result.{result_ok}
use Rattle.std.specs.Option.{option_eq}
use Rattle.storage.proofs.ListsLaws.KeyLaws.{eqb-sym}
use lib.ListN.{length-map}
use Rattle.protocol.specs.Gossips.{hops_of, announcers, same_as}
use Rattle.block.proofs.AnnounceLaws.{key_here}
use Rattle.block.proofs.LinkLaws.{neighbour-between}
use Rattle.block.specs.Found.{LinkOf, MissingOf}

pub found-link : (s : State) (p : ℕ) (r : Result ℕ ℕ) → FoundIs (keys s.links) p r → LinkOf s p (result_ok r)
found-link s p (Ok i) h = record { below = omega (arith, h.within, length-map s.links (λ e. e.key)); peer = h.same }
found-link s p (Err i) h = neighbour-between p i s.links h

pub found-missing : (s : State) (id : ℕ) (r : Result ℕ ℕ) → ascending (keys s.missing) ≡ true → FoundIs (keys s.missing) id r → MissingOf s id (result_ok r)
unfolding announcers hops_of
found-missing s id (Ok i) up h =
    record { below = omega (arith, h.within, length-map s.missing (λ e. e.key)); key = key_here s id i h; same = ap hops_of (lookup-here id i (entry 0 []) s.missing (up_of (keys s.missing) up) h) }
found-missing s id (Err i) up b = ap hops_of (lookup-between id i s.missing b)

-- whether a peer is the kept one
pub kept-same : (o : Option ℕ) (p : ℕ) → option_eq eqb o (Some p) ≡ same_as p o
unfolding same_as
kept-same None p = refl
kept-same (Some q) p = eqb-sym q p
