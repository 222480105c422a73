-- `lists_pass`: the lists of the first i rows pass.
use Rattle.whole.proofs.Words.{◌≡◌, Bool, true, List, ℕ, ◌-◌, take, drop, all, rows}
use Rattle.std.specs.Fn.{FnReturnsAt}
use Rattle.whole.proofs.tables.lists_pass.Given as goal

abbrev pub invariant-loop-i : goal.invariant-loop-i
invariant-loop-i g l = (f : List ℕ → Bool) → ((list : List ℕ) (r : Bool) → FnReturnsAt g.F.Fn l.test list r → r ≡ f list) → all (λ row. f (drop (l.row_width - 97) row)) (take l.i (rows l.row_width l.row_count l.bytes)) ≡ true
