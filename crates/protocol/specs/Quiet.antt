-- "A quiet neighbour": who is quiet, read from the answers: "until it goes down or is told up by kind 3".
use Rattle.std.specs.Prelude.{ℕ, Bool, false, ◌&&◌, List, [], ◌∷◌, eqb, if◌then◌else◌}
use Rattle.postcard.specs.Message.{Event, Received, Broadcast, Fired, Up, Down}
use Rattle.protocol.specs.Answer.{Answer}
use Rattle.protocol.specs.NoNeighbourPassedOver.{by_event, is_up, tells_down}

-- the event tells this peer up as quiet
unfoldable pub is_up_quiet : ℕ → Event → Bool
is_up_quiet p (Received q m) = false
is_up_quiet p (Broadcast content) = false
is_up_quiet p (Fired t) = false
is_up_quiet p (Up as_quiet q) = eqb p q && as_quiet
is_up_quiet p (Down q) = false

-- is the peer quiet after the call, given whether it was before?
unfoldable pub quiet_after_call : ℕ → Answer → Bool → Bool
quiet_after_call p a was = if by_event (is_up p) a then by_event (is_up_quiet p) a else if tells_down p a then false else was

-- the same after a list of calls
unfoldable pub quiet_after : ℕ → Bool → List Answer → Bool
quiet_after p was [] = was
quiet_after p was (a ∷ past) = quiet_after p (quiet_after_call p a was) past

-- told quiet, and neither down nor told up by kind 3 since
unfoldable pub told_quiet : ℕ → List Answer → Bool
told_quiet p past = quiet_after p false past
