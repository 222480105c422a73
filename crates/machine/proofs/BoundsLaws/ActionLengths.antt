-- How long each kind of action is at most, from the length of what it holds. A number takes at most ten bytes.
-- Assumes nothing.
use Rattle.machine.proofs.Words.{Option, Some, None, ℕ, ◌+◌, ◌*◌, ◌≤◌, Bool, List, [], ◌∷◌, arith, length, Delivery, Swarm, Neighbors, Ihave, Gossip, Prune, Graft, IHave, SendGraft, DispatchLazyPush, EvictCache, AnnounceDropped, Sent, Scheduled, Emitted}
use Rattle.storage.specs.Lists.Base.{sum}
use Rattle.postcard.specs.Number.{number_length}
use Rattle.postcard.specs.Message.{Timer}
use Rattle.postcard.proofs.Lengths.{number-few}
use Rattle.decide.specs.Lengths.{delivery_length, wanted_length, message_length, timer_length, action_length}

delivery-few : (d : Delivery) → delivery_length d ≤ 11
unfolding delivery_length
delivery-few (Swarm r) = omega (arith, number-few r)
delivery-few Neighbors = omega arith

wanted-few : (o : Option ℕ) → wanted_length o ≤ 33
unfolding wanted_length
wanted-few None = omega arith
wanted-few (Some id) = omega arith

timer-few : (t : Timer) → timer_length t ≤ 33
unfolding timer_length
timer-few (SendGraft id) = omega arith
timer-few DispatchLazyPush = omega arith
timer-few EvictCache = omega arith
timer-few AnnounceDropped = omega arith

ihaves-few : (hs : List Ihave) → sum (λ h. 32 + number_length h.round) hs ≤ 42 * length hs
unfolding sum
ihaves-few [] = omega arith
ihaves-few (h ∷ hs) = omega (arith, number-few h.round, ihaves-few hs)

pub scheduled-few : (delay : ℕ) (t : Timer) → action_length (Scheduled delay t) ≤ 44
unfolding action_length
scheduled-few delay t = omega (arith, number-few delay, timer-few t)

pub emitted-few : (p : ℕ) (content : List ℕ) (d : Delivery) → action_length (Emitted p content d) ≤ 32 + length content
unfolding action_length
emitted-few p content d = omega (arith, number-few p, number-few (length content), delivery-few d)

pub gossip-few : (p : ℕ) (taken : Bool) (id : ℕ) (content : List ℕ) (d : Delivery) → action_length (Sent p taken (Gossip id content d)) ≤ 66 + length content
unfolding action_length message_length
gossip-few p taken id content d = omega (arith, number-few p, number-few (length content), delivery-few d)

pub prune-few : (p : ℕ) (taken : Bool) → action_length (Sent p taken Prune) ≤ 13
unfolding action_length message_length
prune-few p taken = omega (arith, number-few p)

pub graft-few : (p : ℕ) (taken : Bool) (wanted : Option ℕ) (r : ℕ) → action_length (Sent p taken (Graft wanted r)) ≤ 56
unfolding action_length message_length
graft-few p taken wanted r = omega (arith, number-few p, wanted-few wanted, number-few r)

pub ihave-few : (p : ℕ) (taken : Bool) (hs : List Ihave) → action_length (Sent p taken (IHave hs)) ≤ 23 + 42 * length hs
unfolding action_length message_length
ihave-few p taken hs = omega (arith, number-few p, number-few (length hs), ihaves-few hs)
