-- `Panel::event`: the list that led to the block and counts before leads, with this call, to those after; a call with no refusal is answered 0.
use Rattle.std.proofs.Common.{ℕ, refl, ap, ◌∙◌, take}
use mathlib.Core.Logic.{∥∥₁_map}
use Rattle.machine.specs.Called.{call_of}
use Rattle.plumtree.specs.Calls.{entries}
use Rattle.plumtree.specs.CallList.{with_call}
use Rattle.plumtree.proofs.ListLaws.{same-leads}
use Rattle.host.proofs.Numbers.{called-answered, called-accepted, accepted_number}
use Rattle.host.proofs.panel.Panel.event.Goals as goal

pub invariant_of-self : goal.invariant_of-self
invariant_of-self c =
    record {
      leads = ∥∥₁_map c.args.self.now.leads (λ g. same-leads c.with_call-self.ensures refl (c.plumtree_event-answer.ensures.continues _ g));
    }

pub returns-in-None-clause-past : goal.returns-in-None-clause-past
returns-in-None-clause-past c =
    let answer = c.plumtree_event-answer in
    c.with_call-self.ensures
    ∙ ap (λ (n : ℕ). with_call (call_of c.args.at.0 c.args.event.now (entries c.args.rooms.now) c.args.output.now) (record { number = n; bytes = take answer.result.length answer.new.output }) c.args.self.now.past.list)
    (accepted_number answer.result.number (called-answered answer.ensures.called).low c.in-None.ensures.unknown)

pub returns-in-None-clause-called : goal.returns-in-None-clause-called
returns-in-None-clause-called c =
    called-accepted c.plumtree_event-answer.ensures.called c.in-None.ensures.unknown
