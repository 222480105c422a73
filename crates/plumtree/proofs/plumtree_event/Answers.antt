-- `plumtree_event`: the call with the array of rooms is the call with the lent entries.
use Rattle.plumtree.proofs.Words.{arith, refl, lent, call_of, Called}
use Rattle.refusal.specs.Numbers.{number_of}
use Rattle.postcard.proofs.FieldBack.{bytes-each}
use Rattle.plumtree.specs.Calls.{entries}
use Rattle.plumtree.proofs.CallLaws.{called-entries}
use Rattle.plumtree.proofs.RoomLaws.{unbounded-all}
use Rattle.plumtree.proofs.ListLaws.{with_call-leads}
use Rattle.plumtree.proofs.plumtree_event.Goals as goal
use Rattle.plumtree.proofs.plumtree_event.Goals.{In-Ok, In-Err}

accepted : (c : In-Ok)
    → Called (call_of c.args.at.0 c.args.event.now (entries c.args.rooms.now) c.args.output.now) (lent c.args.block.now c.args.counts.now c.args.output.now) (lent c.event_core.new.block c.in-Ok.done.stats c.event_core.new.out) 0 c.in-Ok.done.length
accepted c =
    let a = c.args in
    called-entries a.block.now a.event.now c.find_rooms.new.found a.rooms.now a.at.0 a.counts.now a.output.now _ _ _ c.find_rooms.ensures c.in-Ok.ensures.accepted

refused : (c : In-Err)
    → Called (call_of c.args.at.0 c.args.event.now (entries c.args.rooms.now) c.args.output.now) (lent c.args.block.now c.args.counts.now c.args.output.now) (lent c.event_core.new.block c.args.counts.now c.event_core.new.out) (number_of c.in-Err.refusal) 0
refused c =
    let a = c.args in
    called-entries a.block.now a.event.now c.find_rooms.new.found a.rooms.now a.at.0 a.counts.now a.output.now _ _ _ c.find_rooms.ensures c.in-Err.ensures.refused

pub returns-in-Ok-clause-called : goal.returns-in-Ok-clause-called
returns-in-Ok-clause-called c = rw c.accepted.ensures (accepted (goal.at.returns-in-Ok-clause-called c).In-Ok)

pub returns-in-Ok-clause-continues : goal.returns-in-Ok-clause-continues
returns-in-Ok-clause-continues c =
    rw c.accepted.ensures (λ h g. with_call-leads h _ _ g _ (bytes-each c.args.event.now (λ i. omega (arith, c.type_inv.event i))) _ _ _ _ (accepted (goal.at.returns-in-Ok-clause-continues c).In-Ok))

pub returns-in-Err-clause-called : goal.returns-in-Err-clause-called
returns-in-Err-clause-called c = rw c.refused.ensures (refused (goal.at.returns-in-Err-clause-called c).In-Err)

pub returns-in-Err-clause-continues : goal.returns-in-Err-clause-continues
returns-in-Err-clause-continues c =
    rw c.refused.ensures (λ h g. with_call-leads h _ _ g _ (bytes-each c.args.event.now (λ i. omega (arith, c.type_inv.event i))) _ _ _ _ (refused (goal.at.returns-in-Err-clause-continues c).In-Err))

pub find_rooms-requires : goal.find_rooms-requires
find_rooms-requires c = unbounded-all _ refl
