-- The length of an action, without its bytes (question 14). Proved equal to that of `action_bytes`.
use Rattle.std.specs.Prelude.{ℕ, ◌+◌, length, Option, Some, None}
use Rattle.storage.specs.Lists.Base.{sum}
use Rattle.postcard.specs.Number.{number_length}
use Rattle.postcard.specs.Message.{Delivery, Swarm, Neighbors, Message, Gossip, Prune, Graft, IHave, Timer, SendGraft, DispatchLazyPush, EvictCache, AnnounceDropped, Action, Sent, Scheduled, Emitted, Forgotten}

-- of a delivery
unfoldable pub delivery_length : Delivery → ℕ
delivery_length (Swarm r) = 1 + number_length r
delivery_length Neighbors = 1

-- of a Graft's optional identifier
unfoldable pub wanted_length : Option ℕ → ℕ
wanted_length None = 1
wanted_length (Some id) = 33

-- of a message
unfoldable pub message_length : Message → ℕ
message_length (Gossip id content d) = 33 + number_length (length content) + length content + delivery_length d
message_length Prune = 1
message_length (Graft wanted r) = 1 + wanted_length wanted + number_length r
message_length (IHave hs) = 1 + number_length (length hs) + sum (λ h. 32 + number_length h.round) hs

-- of a timer
unfoldable pub timer_length : Timer → ℕ
timer_length (SendGraft id) = 33
timer_length DispatchLazyPush = 1
timer_length EvictCache = 1
timer_length AnnounceDropped = 1

-- of an action
unfoldable pub action_length : Action → ℕ
action_length (Sent p taken m) = 2 + number_length p + message_length m
action_length (Scheduled delay t) = 1 + number_length delay + timer_length t
action_length (Emitted p content d) = 1 + number_length p + number_length (length content) + length content + delivery_length d
action_length (Forgotten id) = 33
