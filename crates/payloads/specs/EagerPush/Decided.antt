-- What is decided of an eager push.
-- Assumes nothing.
use Rattle.std.specs.Prelude.{ℕ, List}
use Rattle.protocol.specs.State.{State}
use Rattle.steps.specs.declared.call.Call.{Call}
use Rattle.payloads.specs.EagerPush.Targets.{TargetsAre}
use Rattle.payloads.specs.EagerPush.Notes.{NotedAre}
use Rattle.payloads.specs.declared.eager_push.Push.{Push}

-- whom it goes to, and who of them gets a note of the identifier
pub record PushIs (call : Call) (sender : ℕ) (skip : List ℕ) (id : ℕ) (s : State) (push : Push) : Type 0 where
  pub to : TargetsAre sender skip s push.to
  pub noted : NotedAre call push.to id s push.noted
