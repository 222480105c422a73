-- The numbers of the refusals: "The first no gives its number".
-- Assumes nothing.
use Rattle.std.specs.Prelude.{ℕ, Result, Ok, Err}
use Rattle.refusal.specs.declared.Refusal.{Refusal}
use Rattle.refusal.specs.declared.Refusal.TheVariants.{MessageSizeOutOfRange, DurationTooLong, LimitOutOfRange, BlockTooShort, BlockNotWhole, TimeTooLate, EventCut, EventMalformed, EventTooLong, MessageTooLong, CountsFull, NoMoreHops, LimitReached, OutputTooShort, NameNotKept, NamesFull, AreaNotWhole, NeighborsBroadcast}

-- the question that was answered no
abbrev pub number_of : Refusal → ℕ
number_of MessageSizeOutOfRange = 1
number_of DurationTooLong = 2
number_of LimitOutOfRange = 3
number_of BlockTooShort = 4
number_of BlockNotWhole = 5
number_of TimeTooLate = 6
number_of EventCut = 7
number_of EventMalformed = 8
number_of EventTooLong = 9
number_of MessageTooLong = 10
number_of CountsFull = 11
number_of NoMoreHops = 12
number_of LimitReached = 13
number_of OutputTooShort = 14
number_of NameNotKept = 15
number_of NamesFull = 16
number_of AreaNotWhole = 17
number_of NeighborsBroadcast = 23

-- what a call answers: "Answer 0 is yes to all", and else the number of the refusal
abbrev pub answer_of : {A : Type 0} → Result A Refusal → ℕ
answer_of (Ok a) = 0
answer_of (Err r) = number_of r
