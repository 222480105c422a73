-- What the caller sees of a call.
-- Assumes nothing.
use Rattle.std.specs.Prelude.{ℕ, List, [], take, Result, Ok, Err}
use Rattle.plumtree.specs.Chain.{Seen}
use Rattle.refusal.specs.Numbers.{number_of}
use Rattle.refusal.specs.declared.Refusal.{Refusal}

-- the answer number, and the bytes of the actions, which stand at the start of the output
abbrev pub seen_in : Result ℕ Refusal → List ℕ → Seen
seen_in (Ok n) output = record { number = 0; bytes = take n output }
seen_in (Err r) output = record { number = number_of r; bytes = [] }

-- the length of the output
abbrev pub length_in : Result ℕ Refusal → ℕ
length_in (Ok n) = n
length_in (Err r) = 0
