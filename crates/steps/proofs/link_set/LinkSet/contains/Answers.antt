use Rattle.std.proofs.Common.{◌/◌, ◌^◌, ℕ, ap, eqb}
use Rattle.std.proofs.lemmas.Nat.{and_mask}
use Rattle.steps.specs.LinkSets.{has_link}
use Rattle.steps.proofs.link_set.LinkSet.contains.Goals as goal

pub returns : goal.returns
unfolding has_link
returns c = ap (λ (x : ℕ). eqb x 1) (and_mask (c.args.self.0 / 2 ^ c.args.link) 1)
