-- `Panel::new`: an accepted creation begins a list.
use Rattle.std.proofs.Common.{refl}
use Rattle.protocol.specs.State.{zero_counts}
use Rattle.plumtree.proofs.ListLaws.{same-leads}
use Rattle.host.proofs.Numbers.{made-low, made-accepted, made-untouched, accepted_number}
use Rattle.host.proofs.panel.Panel.new.Goals as goal

pub invariant_of-result : goal.invariant_of-result
invariant_of-result c =
    let answer = c.plumtree_create-answer in
    record {
      leads = ∣ same-leads c.new-past.ensures refl (answer.ensures.begins
          (accepted_number answer.result.number (made-low _ _ _ _ _ _ _ _ answer.ensures.made) c.in-None.ensures.unknown)) ∣₁;
    }

pub returns-in-None-clause-made : goal.returns-in-None-clause-made
unfolding zero_counts
returns-in-None-clause-made c = made-accepted c.plumtree_create-answer.ensures.made c.in-None.ensures.unknown

pub returns-in-Some-clause-untouched : goal.returns-in-Some-clause-untouched
returns-in-Some-clause-untouched c =
    made-untouched c.args.settings c.args.limits _ _ _ _ c.in-Some.refusal c.in-Some.ensures.known c.plumtree_create-answer.ensures.made
