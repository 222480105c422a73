-- `lower::move_notes`: the rows first, then the numbers, which stand before them.
use Rattle.block.proofs.Words.{◌≡◌, sym, ap, ◌∙◌, ℕ, part, put, arith}
use Rattle.block.specs.Neighbours.Lowered.{moved_notes}
use Rattle.block.proofs.NeighboursLaws.LoweredRuns.{moved-apart, not-moved}
use Rattle.block.proofs.renumber.lower.move_notes.Goals as goal

pub returns-then-to-j : goal.returns-then-to-j
returns-then-to-j c =
    let a = c.args in
    c.move_down-then-to-j.ensures
    ∙ (λ z. put a.to (part a.j a.m (c.move_down.ensures z)) (c.move_down.ensures z))
    ∙ moved-apart a.at a.j a.to a.m a.bytes.now c.requires.1 c.requires.2 c.requires.0

pub returns-else-to-j : goal.returns-else-to-j
returns-else-to-j c =
    let a = c.args in
    let e : a.to ≡ a.j = omega (arith, c.requires.0, c.if-to-j.false) in
    sym (ap (λ (t : ℕ). moved_notes a.at a.j t a.m a.bytes.now) e ∙ not-moved a.at a.j a.m a.bytes.now c.requires.1 c.requires.2)
