-- The length of each action's bytes is that of specs/Lengths.antt.
use Rattle.std.proofs.Common.{Option, Some, None, ℕ, zero, suc, ◌+◌, ◌≡◌, refl, ap, List, [], ◌∷◌, ◌++◌, arith, length, length-append}
use Rattle.storage.specs.Lists.Base.{sum, concat_map}
use Rattle.postcard.specs.Number.{number_bytes, number_length, big_endian, id_bytes}
use Rattle.postcard.specs.Message.{Delivery, Swarm, Neighbors, Ihave, Message, Gossip, Prune, Graft, IHave, Timer, SendGraft, DispatchLazyPush, EvictCache, AnnounceDropped, Action, Sent, Scheduled, Emitted, Forgotten, content_bytes, delivery_bytes, ihave_bytes, optional_id_bytes, message_bytes, timer_bytes, taken_byte, action_bytes}
use Rattle.decide.specs.Lengths.{delivery_length, wanted_length, message_length, timer_length, action_length}

length-big : (k n : ℕ) → length (big_endian k n) ≡ k
unfolding big_endian
length-big zero n = refl
length-big (suc k) n = ap suc (length-big k n)

length-id : (id : ℕ) → length (id_bytes id) ≡ 32
unfolding id_bytes
length-id id = length-big 32 id

length-content : (content : List ℕ) → length (content_bytes content) ≡ number_length (length content) + length content
unfolding content_bytes number_length
length-content content = length-append (number_bytes (length content)) content

length-delivery : (d : Delivery) → length (delivery_bytes d) ≡ delivery_length d
unfolding delivery_bytes delivery_length number_length
length-delivery (Swarm r) = omega arith
length-delivery Neighbors = refl

length-wanted : (o : Option ℕ) → length (optional_id_bytes o) ≡ wanted_length o
unfolding optional_id_bytes wanted_length
length-wanted None = refl
length-wanted (Some id) = omega (arith, length-id id)

length-ihaves : (hs : List Ihave) → length (concat_map ihave_bytes hs) ≡ sum (λ h. 32 + number_length h.round) hs
unfolding concat_map sum ihave_bytes number_length
length-ihaves [] = refl
length-ihaves (h ∷ hs) =
    omega (arith, length-append (id_bytes h.id ++ number_bytes h.round) (concat_map ihave_bytes hs), length-append (id_bytes h.id) (number_bytes h.round), length-id h.id, length-ihaves hs)

pub length-message : (m : Message) → length (message_bytes m) ≡ message_length m
unfolding message_bytes message_length
length-message (Gossip id content d) =
    omega (arith, length-append (id_bytes id ++ content_bytes content) (delivery_bytes d), length-append (id_bytes id) (content_bytes content), length-id id, length-content content, length-delivery d)
length-message Prune = refl
length-message (Graft wanted r) = unfold number_length in (omega (arith, length-append (optional_id_bytes wanted) (number_bytes r), length-wanted wanted))
length-message (IHave hs) = unfold number_length in (omega (arith, length-append (number_bytes (length hs)) (concat_map ihave_bytes hs), length-ihaves hs))

length-timer : (t : Timer) → length (timer_bytes t) ≡ timer_length t
unfolding timer_bytes timer_length
length-timer (SendGraft id) = omega (arith, length-id id)
length-timer DispatchLazyPush = refl
length-timer EvictCache = refl
length-timer AnnounceDropped = refl

pub length-action : (a : Action) → length (action_bytes a) ≡ action_length a
unfolding action_bytes action_length number_length
length-action (Sent p taken m) = omega (arith, length-append (number_bytes p) (taken_byte taken ∷ message_bytes m), length-message m)
length-action (Scheduled delay t) = omega (arith, length-append (number_bytes delay) (timer_bytes t), length-timer t)
length-action (Emitted p content d) =
    unfold number_length in (omega (arith, length-append (number_bytes p ++ content_bytes content) (delivery_bytes d), length-append (number_bytes p) (content_bytes content), length-content content, length-delivery d))
length-action (Forgotten id) = omega (arith, length-id id)

pub length-actions : (xs : List Action) → length (concat_map action_bytes xs) ≡ sum action_length xs
unfolding concat_map sum
length-actions [] = refl
length-actions (a ∷ xs) = omega (arith, length-append (action_bytes a) (concat_map action_bytes xs), length-action a, length-actions xs)
