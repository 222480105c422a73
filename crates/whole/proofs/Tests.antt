-- Tests of several parts, and of every element of a list.
-- Assumes nothing.
use Rattle.whole.proofs.Words.{◌≡◌, refl, sym, ◌∙◌, Bool, true, false, not, ◌&&◌, List, [], ◌∷◌, ℕ, zero, suc, get_or, not-true, not-false, and_left, and_right, and_intro}

-- b and all the others
abbrev pub conj : Bool → List Bool → Bool
conj b [] = b
conj b (x ∷ xs) = conj (b && x) xs

-- each of them is true
abbrev pub Each : List Bool → Type 0
Each [] = Unit {0}
Each (b ∷ bs) = (b ≡ true) × Each bs

pub each : (b : Bool) (bs : List Bool) → conj b bs ≡ true → Each (b ∷ bs)
each b [] h = (h, tt)
each b (x ∷ xs) h =
    let e : Each ((b && x) ∷ xs) = each (b && x) xs h in
    (and_left b x e.0, (and_right b x e.0, e.1))

pub from_each : (b : Bool) (bs : List Bool) → Each (b ∷ bs) → conj b bs ≡ true
from_each b [] e = e.0
from_each b (x ∷ xs) e = from_each (b && x) xs (and_intro e.0 e.1.0, e.1.1)

-- the one at i
pub picks : (b : Bool) (bs : List Bool) → conj b bs ≡ true → (i : ℕ) → get_or (b ∷ bs) i true ≡ true
picks b bs h i = at (b ∷ bs) i (each b bs h)
  where
    at : (cs : List Bool) (i : ℕ) → Each cs → get_or cs i true ≡ true
    at [] i e = refl
    at (c ∷ cs) zero e = e.0
    at (c ∷ cs) (suc i) e = at cs i e.1

-- tests that follow from each other are one
pub both_ways : (a b : Bool) → (a ≡ true → b ≡ true) → (b ≡ true → a ≡ true) → a ≡ b
both_ways true b f g = sym (f refl)
both_ways false true f g = g refl
both_ways false false f g = refl

-- what a function's answer r tells of the test t that it is
pub no : {r t : Bool} → r ≡ t → not r ≡ true → t ≡ false
no {r} e h = sym e ∙ not-true r h

pub yes : {r t : Bool} → r ≡ t → not r ≡ false → t ≡ true
yes {r} e h = sym e ∙ not-false r h
