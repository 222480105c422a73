-- Two starts, one behind the other.
use Rattle.std.proofs.Common.{◌≡◌, ◌+◌, ℕ, arith, ap}
use denote.Enum.Declared.{tag_of}
use Rattle.block.specs.Layouts.{number}
use Rattle.block.specs.contracts.layout.Table.{the_type}
use Rattle.block.specs.declared.layout.Table.{Table}
use Rattle.block.proofs.LayoutLaws.{at-span, number-below}
use Rattle.block.proofs.layout.Layout.span.Goals as goal

tag-is : (t : Table) → tag_of the_type t + 1 ≡ number t
tag-is t = grind arith

pub returns : goal.returns
returns c = λ l lays.
    let e = tag-is c.args.table in
    at-span c.args.self.now l lays (number c.args.table) (number-below c.args.table) _ _ e (ap (λ (n : ℕ). n + 1) e)
