-- A copy of a message received before.
-- Assumes nothing.
use Rattle.std.specs.Prelude.{ℕ, ◌<◌, List, length}
use Rattle.storage.specs.Lists.Base.{concat_map}
use Rattle.storage.specs.Rows.Ident.{id_of}
use Rattle.storage.specs.declared.rows.id.Id.{Id}
use Rattle.time_cache.specs.TimeCache.{get}
use Rattle.postcard.specs.Message.{action_bytes}
use Rattle.postcard.specs.Values.{delivery_value}
use Rattle.postcard.specs.declared.message.Delivery.{Delivery}
use Rattle.protocol.specs.State.{State}
use Rattle.protocol.specs.Gossips.{late_kind, duplicate, repeated, faster, with_kept}
use Rattle.protocol.specs.Gossips.{Late as LateKind}
use Rattle.decide.specs.StateAfter.{late_state}
use Rattle.decide.specs.ActionsAfter.{late_actions}
use Rattle.block.specs.LinkSteps.{peer_at}
use Rattle.steps.specs.Calls.{rooms_of}
use Rattle.steps.specs.declared.call.Call.{Call}
use Rattle.payloads.specs.declared.on_late_graft_reply.LateCopy.{LateCopy}
use Rattle.payloads.specs.declared.on_late_graft_reply.Late.{Late}
use Rattle.payloads.specs.declared.on_late_graft_reply.Late.TheVariants.{Duplicate, Repeated, Faster}

-- what a copy that came so is, by the definitions
abbrev pub copy_kind : ℕ → Id → Delivery → State → LateKind
copy_kind sender id d s = late_kind sender (delivery_value d) s.links (get (id_of id) s.grafted)

-- what it is, by the number of a link
abbrev pub late_value : State → Late → LateKind
late_value s Duplicate = duplicate
late_value s Repeated = repeated
late_value s (Faster first) = faster (peer_at s first)

-- that link is there
abbrev pub LateHeld : State → Late → Type 0
LateHeld s (Faster first) = first < length s.links
LateHeld s _ = Unit {0}

-- its sender is kept
abbrev pub kept_state : LateCopy → State → State
kept_state c s = with_kept (id_of c.id) c.sender (get (id_of c.id) s.grafted) s

-- the state after it
abbrev pub after_late : LateCopy → State → State
after_late c s = late_state c.sender (id_of c.id) (late_value s c.kind) s

-- its actions
abbrev pub late_bytes : Call → LateCopy → State → List ℕ
late_bytes call c s = concat_map action_bytes (late_actions (rooms_of call s) c.sender (late_value s c.kind))
