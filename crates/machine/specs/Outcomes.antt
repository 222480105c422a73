-- What a call is to do once every question is answered yes, and what a step leaves: questions 12 and 13, then the step. Proved equal to what `event_plan` says of the event whose step it is
-- (proofs/OutcomeLaws.antt).
-- Assumes nothing.
use Rattle.std.specs.Prelude.{ℕ, ◌≤◌, ◌≡◌, List, [], length, Result, Ok, Err, if◌then◌else◌}
use Rattle.refusal.specs.Numbers.{number_of}
use Rattle.refusal.specs.declared.Refusal.{Refusal}
use Rattle.refusal.specs.declared.Refusal.TheVariants.{NoMoreHops}
use Rattle.protocol.specs.Links.{link_up}
use Rattle.protocol.specs.State.{State, Counts}
use Rattle.protocol.specs.Neighbours.{forget_peer}
use Rattle.protocol.specs.Answer.{refused}
use Rattle.storage.specs.Rows.Part.{put}
use Rattle.block.specs.LinkSteps.{linked}
use Rattle.block.specs.Panels.{Allowed, Goes, state}
use Rattle.block.specs.declared.panel.Panel.{Panel}
use Rattle.steps.specs.declared.call.Call.{Call}
use Rattle.whole.specs.Stats.{counts_of}
use Rattle.machine.specs.Decided.{Planned, unless, answered}
use Rattle.machine.specs.Limit.{state_limit}
use Rattle.machine.specs.Kinds.Meaning.{step_far, step_counts, SenderIs}
use Rattle.machine.specs.Steps.{after_event, event_bytes, Keeps, Due}
use Rattle.machine.specs.declared.kinds.Step.{Step}
use Rattle.machine.specs.declared.event.Task.{Task}
use Rattle.machine.specs.declared.event.Task.TheVariants as task
use Rattle.machine.specs.declared.event.Stop.{Stop}
use Rattle.machine.specs.declared.event.Stop.TheVariants.{Refused}
use Rattle.machine.specs.declared.event.Plan.{Plan}
use Rattle.machine.specs.declared.event.Outcome.{Outcome as Left}

-- (12), (13), or what the step leaves; `counted` are the counts once the message is counted
unfoldable pub step_plan : Call → Step → State → Counts → Result Planned Stop
step_plan call step s counted =
    if step_far step then Err (Refused NoMoreHops)
    else unless (state_limit (after_event call step s)) (record { state = after_event call step s; counts = step_counts step counted; bytes = event_bytes call step s })

-- the state after a task; a neighbour up or down has no first event's work
abbrev pub after_task : Call → Task → State → State
after_task call (task.Step step) s = after_event call step s
after_task call (task.Up peer as_quiet) s = linked (link_up as_quiet peer) s
after_task call (task.Down peer) s = forget_peer peer s

-- its actions; a neighbour up or down has none
abbrev pub task_bytes : Call → Task → State → List ℕ
task_bytes call (task.Step step) s = event_bytes call step s
task_bytes call _ s = []

-- what a task asks
abbrev pub Doable : Call → Task → State → Type 0
Doable call (task.Step step) s = Due call step s × SenderIs call.peer step
Doable call t s = Allowed (after_task call t) s

-- what questions 10 to 13 have found
abbrev pub plan_of : Call → State → Result Plan Stop → Result Planned Stop
plan_of call s (Ok p) = Ok (record { state = after_task call p.task s; counts = counts_of p.stats; bytes = task_bytes call p.task s })
plan_of call s (Err stop) = Err stop

-- a call that may go on: its task can be done
pub record Possible (call : Call) (s : State) (p : Plan) : Type 0 where
  pub doable : Doable call p.task s
  pub keeps : Keeps s (after_task call p.task s)

-- a call that is accepted: question 14 is answered yes too, and the panel and the output are what was planned
pub record CarriedOut (x : Result Planned Stop) (p q : Panel) (out last : List ℕ) (o : Left) : Type 0 where
  pub planned : Planned
  pub found : x ≡ Ok planned
  pub goes : Goes (λ s. planned.state) p q
  pub keeps : Keeps (state p) planned.state
  pub counts : counts_of o.stats ≡ planned.counts
  pub long : o.length ≡ length planned.bytes
  pub fits : o.length ≤ length out
  pub output : last ≡ put 0 planned.bytes out

-- one that is turned down: nothing is changed
pub record TurnedDown (x : Result Planned Stop) (p q : Panel) (out last : List ℕ) (r : Refusal) : Type 0 where
  pub number : answered (length out) x ≡ refused (number_of r)
  pub panel : q ≡ p
  pub output : last ≡ out
