-- `task_size`: by the task.
use Rattle.machine.proofs.Words.{arith, subst, shown}
use Rattle.steps.specs.Calls.{rooms_of}
use Rattle.machine.proofs.BoundsLaws.StepTold.{step-length}
use Rattle.machine.specs.Outcomes.{Doable}
use Rattle.machine.specs.declared.event.Task.{Task}
use Rattle.machine.proofs.event.task_size.Goals as goal

pub size-requires : goal.size-requires
size-requires c =
    let v = c.args.view.now in
    let k = c.args.call.now in
    let due = subst (λ (t : Task). Doable k t (shown v)) c.in-Step.is c.requires in
    omega (arith, step-length v.head.now v.block.now (rooms_of k (shown v)) k.instant.0 c.in-Step.step v.sound due.0.held)
