-- `sequences::same_sequence`: the first j elements agree.
use Rattle.alike.proofs.Words.{ℕ, ◌≤◌, ◌<◌, ◌≡◌, true, List, get_or, shown}
use Rattle.alike.specs.Elements.{Element, element, same_element, sequence_of}
use Rattle.alike.proofs.sequences.same_sequence.Given as goal

-- element k of both agrees
abbrev pub Agree : List Element → List Element → ℕ → Type 0
Agree xs ys k = same_element (get_or xs k (element 0 0 0)) (get_or ys k (element 0 0 0)) ≡ true

abbrev pub invariant-loop-j : goal.invariant-loop-j
invariant-loop-j l = (l.j ≤ l.n) × ((k : ℕ) → k < l.j → Agree (sequence_of l.of (shown l.x)) (sequence_of l.of (shown l.y)) k)
