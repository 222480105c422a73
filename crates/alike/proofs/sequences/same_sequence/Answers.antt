-- `sequences::same_sequence`: the first j elements agree.
use Rattle.alike.proofs.Words.{ap, not, ◌≡◌, sym, ◌∙◌, List, ℕ, ◌<◌, length, get_or, below_more, arith, rules, no, yes, shown}
use Rattle.alike.specs.Elements.{Element, element, same_element, sequence_of}
use Rattle.alike.proofs.Lists.{list-yes, list-no, list_length}
use Rattle.alike.proofs.sequences.same_sequence.Invariants.{Agree}
use Rattle.alike.proofs.sequences.same_sequence.Goals as goal
use Rattle.alike.proofs.sequences.same_sequence.Goals.{After-same, Start}

-- the two lists
module _ (s : Start) where
  abbrev A : List Element
  A = sequence_of s.args.of (shown s.args.x.now)

  abbrev B : List Element
  B = sequence_of s.args.of (shown s.args.y.now)

-- element j of both, as it was read
module _ (d : After-same) where
  abbrev start : Start
  start = (goal.at.After-same d).Start

  abbrev at : ℕ
  at = d.loop-j.j

  in_a : at < length (A start)
  in_a = omega (arith, d.loop-j-test.true, d.size-n.ensures)

  in_b : at < length (B start)
  in_b = omega (arith, d.loop-j-test.true, d.size.ensures, d.if-n-size.false)

  compared : d.same.result ≡ same_element (get_or (A start) at (element 0 0 0)) (get_or (B start) at (element 0 0 0))
  compared = d.same.ensures ∙ (λ k. same_element (d.item_at.ensures k) (d.item_at-in-loop-j.ensures k))

pub returns-then-n-size : goal.returns-then-n-size
returns-then-n-size c =
    sym (list_length same_element (element 0 0 0) (A (goal.at.returns-then-n-size c).Start) (B (goal.at.returns-then-n-size c).Start) (λ e. c.if-n-size.true (c.size-n.ensures ∙ e ∙ sym c.size.ensures)))

pub returns-then-not-same : goal.returns-then-not-same
returns-then-not-same c =
    sym (list-no same_element (element 0 0 0) (A (start (goal.at.returns-then-not-same c).After-same)) (B (start (goal.at.returns-then-not-same c).After-same)) (at (goal.at.returns-then-not-same c).After-same) (in_a (goal.at.returns-then-not-same c).After-same) (in_b (goal.at.returns-then-not-same c).After-same) (no (compared (goal.at.returns-then-not-same c).After-same) (ap not c.if-not-same.true)))

pub loop-j-preserved : goal.loop-j-preserved
loop-j-preserved c =
    (search rules, below_more (Agree (A (start (goal.at.loop-j-preserved c).After-same)) (B (start (goal.at.loop-j-preserved c).After-same))) (at (goal.at.loop-j-preserved c).After-same) c.loop-j.invariant.1 (yes (compared (goal.at.loop-j-preserved c).After-same) (ap not c.if-not-same.false)))

pub returns : goal.returns
returns c =
    let n = c.size-n.ensures in
    sym (list-yes same_element (element 0 0 0) (A (goal.at.returns c).Start) (B (goal.at.returns c).Start) (sym n ∙ c.if-n-size.false ∙ c.size.ensures)
    (λ k h. c.loop-j.invariant.1 k (omega (arith, h, n, c.loop-j-test.false))))
