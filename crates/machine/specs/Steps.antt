-- What a step does to a panel, what it writes, and what it asks.
-- Assumes nothing.
use Rattle.std.specs.Prelude.{ℕ, ◌≤◌, ◌≡◌, true, false, List, ◌++◌, Option, Some, None}
use Rattle.storage.specs.Lists.Base.{concat_map}
use Rattle.postcard.specs.Message.{action_bytes}
use Rattle.protocol.specs.State.{State, Hop}
use Rattle.protocol.specs.declared.TheConstants.{LATEST}
use Rattle.decide.specs.Settled.{settled, settled_actions}
use Rattle.steps.specs.Calls.{rooms_of}
use Rattle.block.specs.Panels.{AtRest, Allowed}
use Rattle.steps.specs.declared.call.Call.{Call}
use Rattle.machine.specs.Kinds.Meaning.{step_actions, step_state, step_far, StepHeld, StepDecided, SenderIs}
use Rattle.machine.specs.declared.kinds.Step.{Step}
use Rattle.machine.specs.declared.kinds.Step.TheVariants as kinds
use Rattle.payloads.specs.OnLateGraftReply.{LateHeld}
use Rattle.payloads.specs.OptimizeTree.{ShortcutOf}
use Rattle.payloads.specs.declared.optimize_tree.Shortcut.{Shortcut}
use Rattle.payloads.specs.declared.on_late_graft_reply.Late.{Late}
use Rattle.payloads.specs.declared.on_late_graft_reply.Late.TheVariants.{Faster}
use Rattle.std.proofs.Props.{props}

-- the state after it, where a first event's work is done
abbrev pub after_step : Call → Step → State → State
after_step call step s = step_state (rooms_of call s) call.instant.0 step s

-- the state after a first event's work and the step
abbrev pub after_event : Call → Step → State → State
after_event call step s = after_step call step (settled call.instant.0 s)

-- the actions of both, of the state before
abbrev pub event_bytes : Call → Step → State → List ℕ
event_bytes call step s = concat_map action_bytes (settled_actions call.instant.0 s ++ step_actions (rooms_of call s) call.instant.0 step (settled call.instant.0 s))

-- the limits and the settings are those before
pub record Keeps (s t : State) : Type 0 where
  pub limits : t.limits ≡ s.limits
  pub settings : t.settings ≡ s.settings

-- a step that may be asked for its sizes: what it names is there, and what is decided of it is right
pub record Named (call : Call) (step : Step) (s : State) : Type 0 where
  pub rest : AtRest s
  pub held : StepHeld s step
  pub decided : StepDecided call step (settled call.instant.0 s)

-- one that may be asked for its actions: its sender is the event's peer, and its round is none that question 12 refuses
pub record Asked (call : Call) (step : Step) (s : State) : Type 0 where
  pub named : Named call step s
  pub sender : SenderIs call.peer step
  pub near : step_far step ≡ false

-- one of which questions 12 to 14 may be asked
pub record Askable (call : Call) (step : Step) (s : State) : Type 0 where
  pub named : Named call step s
  pub sender : SenderIs call.peer step
  pub early : call.instant.0 ≤ LATEST.0
  pub keeps : Keeps s (after_event call step s)

-- one that may be taken, where a first event's work is done
pub record Ready (call : Call) (step : Step) (s : State) : Type 0 where
  pub allowed : Allowed (after_step call step) s
  pub begun : s.init ≡ true
  pub held : StepHeld s step
  pub decided : StepDecided call step s
  pub near : step_far step ≡ false
  pub early : call.instant.0 ≤ LATEST.0

-- one that may be taken behind a first event's work
pub record Due (call : Call) (step : Step) (s : State) : Type 0 where
  pub allowed : Allowed (after_event call step) s
  pub held : StepHeld s step
  pub decided : StepDecided call step (settled call.instant.0 s)
  pub near : step_far step ≡ false
  pub early : call.instant.0 ≤ LATEST.0

-- these are facts: they have one proof at most
late-prop : (s : State) (k : Late) → IsProp (LateHeld s k)
late-prop s (Faster first) = Prim.hlevel props
late-prop s _ = Prim.hlevel props

pub StepHeld-prop : (s : State) (step : Step) → IsProp (StepHeld s step)
StepHeld-prop s (kinds.NewSwarm m) = Prim.hlevel props
StepHeld-prop s (kinds.NewNeighbors sender content) = Prim.hlevel props
StepHeld-prop s (kinds.Late copy) = late-prop s copy.kind
StepHeld-prop s (kinds.Prune link) = Prim.hlevel props
StepHeld-prop s (kinds.Graft link wanted) = Prim.hlevel props
StepHeld-prop s (kinds.IHave link d) = Prim.hlevel props
StepHeld-prop s (kinds.Broadcast m) = Prim.hlevel props
StepHeld-prop s _ = Prim.hlevel props

shortcut-prop : (s : State) (sender : ℕ) (found : Option Hop) (c : Option Shortcut) → IsProp (ShortcutOf s sender found c)
shortcut-prop s sender found (Some c) = Prim.hlevel props
shortcut-prop s sender found None = Prim.hlevel props

pub StepDecided-prop : (call : Call) (step : Step) (s : State) → IsProp (StepDecided call step s)
StepDecided-prop call (kinds.NewSwarm m) s = Prim.hlevel (props, shortcut-prop s m.sender)
StepDecided-prop call (kinds.Broadcast m) s = Prim.hlevel props
StepDecided-prop call _ s = Prim.hlevel props

pub SenderIs-prop : (p : ℕ) (step : Step) → IsProp (SenderIs p step)
SenderIs-prop p (kinds.NewSwarm m) = Prim.hlevel props
SenderIs-prop p (kinds.NewNeighbors sender content) = Prim.hlevel props
SenderIs-prop p (kinds.Late copy) = Prim.hlevel props
SenderIs-prop p _ = Prim.hlevel props

pub AtRest-prop : (s : State) → IsProp (AtRest s)
AtRest-prop s = Prim.hlevel props

pub near-prop : (step : Step) → IsProp (step_far step ≡ false)
near-prop step = Prim.hlevel props
