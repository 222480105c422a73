-- `call`: the call is one more of the list, and what is seen of it is its answer.
use Rattle.std.proofs.Common.{◌∙◌, ap, sym, ℕ, [], length, take}
use Rattle.plumtree.specs.Calls.{entries}
use Rattle.plumtree.specs.Chain.{Seen}
use Rattle.plumtree.specs.CallList.{with_call}
use Rattle.panel.proofs.Rans.{answered-one}
use Rattle.panel.proofs.stream.call.Goals as goal

pub returns-in-Ok-clause-answered : goal.returns-in-Ok-clause-answered
unfolding entries
returns-in-Ok-clause-answered c =
    let v : Seen = record { number = 0; bytes = take c.in-Ok.length c.event.new.output } in
    answered-one _ _ _ v _ _
    (c.in-Ok.ensures.past ∙ ap (λ (n : ℕ). with_call (record { now = c.args.at.0; event = c.args.event.now; rooms = []; output = n }) v c.args.panel.now.past.list) c.told-out)
    c.event.new.self.leads

pub returns-in-Err-clause-answered : goal.returns-in-Err-clause-answered
unfolding entries
returns-in-Err-clause-answered c =
    let list = c.args.panel.now.past.list in
    let v : Seen = record { number = c.number.result; bytes = [] } in
    answered-one _ _ _ v _ _
    (c.in-Err.ensures.past
    ∙ ap (λ (m : ℕ). with_call (record { now = c.args.at.0; event = c.args.event.now; rooms = []; output = length c.args.out.now }) (record { number = m; bytes = [] }) list) (sym c.number.ensures)
    ∙ ap (λ (n : ℕ). with_call (record { now = c.args.at.0; event = c.args.event.now; rooms = []; output = n }) v list) c.told-out)
    c.event.new.self.leads
