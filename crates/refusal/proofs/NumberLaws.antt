-- No refusal has the number 0.
use Rattle.std.proofs.Common.{arith, ◌≡◌}
use Rattle.refusal.specs.Numbers.{number_of}
use Rattle.refusal.specs.declared.Refusal.{Refusal}
use Rattle.refusal.specs.declared.Refusal.TheVariants.{MessageSizeOutOfRange, DurationTooLong, LimitOutOfRange, BlockTooShort, BlockNotWhole, TimeTooLate, EventCut, EventMalformed, EventTooLong, MessageTooLong, CountsFull, NoMoreHops, LimitReached, OutputTooShort, NameNotKept, NamesFull, AreaNotWhole, NeighborsBroadcast}

pub not_0 : (r : Refusal) → number_of r ≡ 0 → ⊥
not_0 MessageSizeOutOfRange e = omega arith
not_0 DurationTooLong e = omega arith
not_0 LimitOutOfRange e = omega arith
not_0 BlockTooShort e = omega arith
not_0 BlockNotWhole e = omega arith
not_0 TimeTooLate e = omega arith
not_0 EventCut e = omega arith
not_0 EventMalformed e = omega arith
not_0 EventTooLong e = omega arith
not_0 MessageTooLong e = omega arith
not_0 CountsFull e = omega arith
not_0 NoMoreHops e = omega arith
not_0 LimitReached e = omega arith
not_0 OutputTooShort e = omega arith
not_0 NameNotKept e = omega arith
not_0 NamesFull e = omega arith
not_0 AreaNotWhole e = omega arith
not_0 NeighborsBroadcast e = omega arith
