-- `tables::same_first`: by whether they came.
use Rattle.std.proofs.Common.{◌≡◌, refl, sym, ap, ◌∙◌, Bool, true, false, not, ◌&&◌, eqb, eq-eqb, ne_eqb, Option, Some, None}
use Rattle.std.specs.Option.{is_some}
use Rattle.storage.proofs.ListsLaws.MapLaws.{true≢}
use Rattle.protocol.specs.Alike.{same_option, same_hop}
use Rattle.block.specs.Caches.GraftSteps.{first_value}
use Rattle.block.specs.declared.caches.grafted.FirstCopy.{FirstCopy}
use Rattle.alike.proofs.Lists.{and-no-left}
use Rattle.alike.proofs.tables.same_first.Goals as goal

-- none came in the first, nor in the second
none-came : (y : Option FirstCopy) (b : Bool) → is_some y ≡ not b → b ≡ same_option same_hop None (first_value y)
unfolding same_option
none-came None true e = refl
none-came None false e = true≢ e
none-came (Some f) true e = true≢ (sym e)
none-came (Some f) false e = refl

pub returns-then-a-b : goal.returns-then-a-b
unfolding same_option same_hop
returns-then-a-b c =
    let a = c.in-Some.a in
    let b = c.in-Some-y.b in
    sym ((λ k. same_option same_hop (first_value (c.in-Some.is k)) (first_value (c.in-Some-y.is k))) ∙ ap (λ (t : Bool). t && eqb a.round.0 b.round.0) (eq-eqb a.sender b.sender c.if-a-b.true))

pub returns-else-a-b : goal.returns-else-a-b
unfolding same_option same_hop
returns-else-a-b c =
    let a = c.in-Some.a in
    let b = c.in-Some-y.b in
    let apart = ne_eqb a.sender b.sender c.if-a-b.false in
    apart ∙ sym ((λ k. same_option same_hop (first_value (c.in-Some.is k)) (first_value (c.in-Some-y.is k))) ∙ and-no-left (eqb a.sender b.sender) (eqb a.round.0 b.round.0) apart)

pub returns-in-None-y : goal.returns-in-None-y
unfolding same_option
returns-in-None-y c = sym (λ k. same_option same_hop (first_value (c.in-Some.is k)) (first_value (c.in-None-y.is k)))

pub returns-in-None : goal.returns-in-None
returns-in-None c = none-came c.args.y c.is_none.result c.is_none.ensures ∙ ap (λ (o : Option FirstCopy). same_option same_hop (first_value o) (first_value c.args.y)) (sym c.in-None.is)
