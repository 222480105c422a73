-- The sum of a number and of a power above it.
use Rattle.std.proofs.Common.{◌≡◌, ◌++◌, ◌∷◌, [], ◌+◌, ℕ, sym, subst, bit_or}
use Rattle.std.proofs.lemmas.Nat.{one_shl}
use Rattle.steps.specs.LinkSets.{links_of, AllBelow}
use Rattle.steps.specs.declared.link_set.LinkSet.{LinkSet}
use Rattle.steps.proofs.LinkSetLaws.{more-below, more-links}
use Rattle.steps.proofs.link_set.LinkSet.with.Goals as goal

abbrev or_with : LinkSet → ℕ → LinkSet
or_with set x = record { 0 = bit_or set.0 x }

pub returns-clause-more : goal.returns-clause-more
returns-clause-more c =
    subst (λ (x : ℕ). links_of (or_with c.args.self x) ≡ links_of c.args.self ++ (c.args.link ∷ [])) (sym (one_shl c.args.link 32 c.requires.1))
    (more-links c.args.self c.args.link c.requires.0 c.requires.1)

pub returns-clause-below : goal.returns-clause-below
returns-clause-below c =
    subst (λ (x : ℕ). AllBelow (or_with c.args.self x) (c.args.link + 1)) (sym (one_shl c.args.link 32 c.requires.1)) (more-below c.args.self c.args.link c.requires.0)
