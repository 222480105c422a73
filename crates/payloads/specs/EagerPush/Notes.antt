-- The record once what was handed back of an eager push is noted.
-- Assumes nothing.
use Rattle.std.specs.Prelude.{ℕ, ◌≡◌, true, Bool, List, length}
use Rattle.protocol.specs.State.{State, Note}
use Rattle.decide.specs.RecordGrowth.{batches_for, add_batches}
use Rattle.steps.specs.LinkSets.{links_of, AllBelow}
use Rattle.steps.specs.Record.{with_these}
use Rattle.steps.specs.declared.call.Call.{Call}
use Rattle.steps.specs.declared.link_set.LinkSet.{LinkSet}
use Rattle.payloads.specs.EagerPush.Targets.{push_backs}

-- the record then; `held` tells which identifiers are cached
abbrev pub record_back : (ℕ → Bool) → Call → LinkSet → ℕ → ℕ → State → List Note
record_back held call to id round s = add_batches held (batches_for (record { id = id; round = round }) (push_backs call to s)) s.dropped

-- these links get a note of an identifier that is cached, at whatever round
pub record NotedAre (call : Call) (to : LinkSet) (id : ℕ) (s : State) (noted : LinkSet) : Type 0 where
  pub below : AllBelow noted (length s.links)
  pub same : (held : ℕ → Bool) (round : ℕ) → held id ≡ true → record_back held call to id round s ≡ with_these (links_of noted) id round s
