-- Each table starts where the one before it ends, and lies within the block.
-- Assumes nothing.
use Rattle.block.proofs.Words.{add-one, ◌≡◌, List, [], ◌∷◌, ℕ, zero, suc, ◌+◌, ◌≤◌, ◌<◌, arith, refl, ap, ◌∙◌, get_or, length, Limits}
use Rattle.block.specs.Cut.{start, total}
use Rattle.block.specs.Layout.{sizes, place, span}
use Rattle.block.specs.Layouts.{number, LaysOut}
use Rattle.block.specs.declared.layout.Layout.{Layout}
use Rattle.block.specs.declared.layout.Table.{Table}

-- where the next piece starts
pub start-next : (ss : List ℕ) (i : ℕ) → start ss (suc i) ≡ start ss i + get_or ss i 0
start-next [] zero = refl
start-next [] (suc i) = refl
start-next (s ∷ ss) zero = omega arith
start-next (s ∷ ss) (suc i) = omega (arith, start-next ss i)

-- a piece starts within the whole
pub start-within : (ss : List ℕ) (i : ℕ) → start ss i ≤ total ss
start-within [] zero = omega arith
start-within [] (suc i) = omega arith
start-within (s ∷ ss) zero = omega arith
start-within (s ∷ ss) (suc i) = omega (arith, start-within ss i)

-- where each piece starts, from a place on, and where the last ends
unfoldable pub running : ℕ → List ℕ → List ℕ
running a [] = a ∷ []
running a (s ∷ ss) = a ∷ running (a + s) ss

running-start : (a : ℕ) (ss : List ℕ) (i : ℕ) → i ≤ length ss → get_or (running a ss) i 0 ≡ a + start ss i
unfolding running
running-start a [] zero h = let e : a ≡ a + 0 = omega arith in e
running-start a [] (suc i) h = absurd (omega (arith, h))
running-start a (s ∷ ss) zero h = let e : a ≡ a + 0 = omega arith in e
running-start a (s ∷ ss) (suc i) h = running-start (a + s) ss i (omega (arith, h)) ∙ (let e : a + s + start ss i ≡ a + (s + start ss i) = omega arith in e)

pub running-places : (l : Limits) (i : ℕ) → i ≤ 15 → get_or (running 0 (sizes l)) i 0 ≡ place l i
running-places l i h = running-start 0 (sizes l) i h ∙ (let e : 0 + place l i ≡ place l i = omega arith in e)

-- two starts, one behind the other, are where a table stands
module _ (y : Layout) (l : Limits) (lays : LaysOut y l) (t : ℕ) (ht : t < 15) where
  pub at-start : (a : ℕ) → a ≡ t → get_or y.starts a 0 ≡ place l t
  at-start a e = ap (λ (n : ℕ). get_or y.starts n 0) e ∙ lays.starts t (omega arith)

  pub at-span : (a b : ℕ) → a ≡ t → b ≡ t + 1 → record { start = get_or y.starts a 0; end = get_or y.starts b 0 } ≡ span l t
  at-span a b e f =
      let next : get_or y.starts b 0 ≡ place l t + get_or (sizes l) t 0 = ap (λ (n : ℕ). get_or y.starts n 0) f ∙ lays.starts (t + 1) (omega arith) ∙ ap (start (sizes l)) (add-one t) ∙ start-next (sizes l) t in
      λ k. record { start = at-start a e k; end = next k }

pub number-below : (t : Table) → number t < 15
number-below t = grind arith
