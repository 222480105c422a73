-- What the caller finds of an event.
use Rattle.machine.proofs.Words.{◌≡◌, ℕ, ◌≤◌, ap, ◌∙◌, List, length, le-leb, Ok, Result, refl, Outcome, accepted, refused}
use Rattle.whole.specs.declared.stats.Stats.{Stats}
use Rattle.machine.specs.Called.{lent, Finds}
use Rattle.machine.specs.Decided.{Planned, answered}
use Rattle.machine.specs.declared.event.Stop.{Stop}
use Rattle.machine.proofs.CoreLaws.{found-no}

-- of one that is turned down
pub found-same : (o : Outcome) (n : ℕ) (block left out last : List ℕ) (c : Stats) → o ≡ refused n → left ≡ block → last ≡ out → Finds o (lent block c out) (lent left c last) n 0
found-same o n block left out last c e b w = rw (b, w) (found-no o n (lent block c out) e)

-- and of one that goes on behind question 14
pub done-answered : (output : ℕ) (x : Result Planned Stop) (p : Planned) → x ≡ Ok p → length p.bytes ≤ output → answered output x ≡ accepted p.state p.counts p.bytes
done-answered output x p e fits = ap (answered output) e ∙ rw (le-leb (length p.bytes) output fits) refl
