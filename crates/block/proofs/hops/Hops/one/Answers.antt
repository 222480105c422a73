-- `Hops::one`: the list is all of what was lent.
use Rattle.std.proofs.Common.{refl, ◌∙◌, List, ℕ, arith, replicate}
use Rattle.storage.specs.Rows.Part.{part}
use Rattle.storage.proofs.RowsLaws.Parts.{put_all}
use Rattle.block.specs.HopSteps.{pushed_hop}
use Rattle.block.proofs.HopLaws.{pushed_long}
use Rattle.block.proofs.hops.Hops.one.Goals as goal

pub returns : goal.returns
unfolding part
returns c =
    let none : List ℕ = replicate 97 0 in
    let hop = c.args.hop in
    let one : List ℕ = pushed_hop hop.link hop.round.0 none in
    c.push_hop.ensures
    ∙ put_all one none (pushed_long none refl hop.link hop.round.0 (omega arith))
