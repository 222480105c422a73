-- Laws that the leaves' loops cite.
-- Assumes nothing.
use Rattle.whole.proofs.Words.{◌≡◌, refl, sym, ap, ◌∙◌, ◌⊎◌, inl, inr, Bool, true, false, List, [], ◌∷◌, ◌++◌, append_assoc, ℕ, zero, suc, ◌+◌, ◌-◌, ◌*◌, ◌≤◌, ◌<◌, eq-or-lt_of_le, arith, length, get_or, length-append, true≢, part, put, put-put-next, get_d_part}
use Rattle.storage.specs.Rows.Digits.{le_nat}
use Rattle.storage.proofs.RefsLaws.Shifts.{low_or_high}
use Rattle.whole.specs.Held.{whole_block}
use Rattle.whole.specs.States.Area.{name_at}
use Rattle.whole.specs.States.Calls.{Tells, Zeros, SlotsHold}

-- a number that is 0 is so byte by byte
zero-bytes : (bs : List ℕ) → le_nat bs ≡ 0 → (j : ℕ) → get_or bs j 0 ≡ 0
unfolding le_nat
zero-bytes [] e j = refl
zero-bytes (b ∷ bs) e zero = omega (arith, e)
zero-bytes (b ∷ bs) e (suc j) = zero-bytes bs (omega (arith, e)) j

-- eight more zeros
pub zeros-word : (a i : ℕ) (xs : List ℕ) → Zeros a i xs → le_nat (part i 8 xs) ≡ 0 → Zeros a (i + 8) xs
zeros-word a i xs z e j h l = go (low_or_high i j)
  where
    go : (j < i) ⊎ (i ≤ j) → get_or xs j 0 ≡ 0
    go (inl q) = z j h q
    go (inr q) =
        let s : i + (j - i) ≡ j = omega arith in
        ap (λ (n : ℕ). get_or xs n 0) (sym s) ∙ sym (get_d_part i 8 (j - i) 0 xs (omega arith)) ∙ zero-bytes (part i 8 xs) e (j - i)

-- what a test told
pub told-yes : (P : Type 0) (r : Bool) → Tells P r → r ≡ true → P
told-yes P true t e = t
told-yes P false t e = true≢ e

pub told-no : (P : Type 0) (r : Bool) → Tells P r → r ≡ false → P → ⊥
told-no P true t e p = true≢ (sym e)
told-no P false t e p = t p

-- a test that is told by another
pub told_same : (P : Type 0) (b r : Bool) → Tells P r → (P → b ≡ true) → ((P → ⊥) → b ≡ false) → r ≡ b
told_same P b true t y n = sym (y t)
told_same P b false t y n = sym (n t)

-- four puts, each where the one before it ends
pub four-puts : (xs : List ℕ) (at : ℕ) (a b c d : List ℕ) → length a ≡ 8 → length b ≡ 8 → length c ≡ 8 → length d ≡ 2 → at + 26 ≤ length xs
    → put (at + 24) d (put (at + 16) c (put (at + 8) b (put at a xs))) ≡ put at (a ++ (b ++ (c ++ d))) xs
four-puts xs at a b c d la lb lc ld h =
    let lab : length (a ++ b) ≡ 16 = omega (arith, length-append a b) in
    let labc : length ((a ++ b) ++ c) ≡ 24 = omega (arith, length-append (a ++ b) c) in
    ap (λ (t : List ℕ). put (at + 24) d (put (at + 16) c t)) (put-put-next at (at + 8) a b xs (omega arith) (omega arith))
    ∙ ap (put (at + 24) d) (put-put-next at (at + 16) (a ++ b) c xs (omega arith) (omega arith))
    ∙ put-put-next at (at + 24) ((a ++ b) ++ c) d xs (omega arith) (omega arith)
    ∙ ap (λ (t : List ℕ). put at t xs) (simp append_assoc)

-- one more slot
pub slots-more : (n i : ℕ) (area : List ℕ) → SlotsHold n i area → ((j : ℕ) → j < i → name_at area j ≡ name_at area i → ⊥) → whole_block (part (256 + n * i) n area) ≡ true → SlotsHold n (i + 1) area
slots-more n i area h fresh w = record {
  names = λ p q l g e. by_name p q l (eq-or-lt_of_le (let m : q ≤ i = omega (arith, g) in m)) e;
  wholes = λ j g. by_place j (eq-or-lt_of_le (let m : j ≤ i = omega (arith, g) in m));
}
  where
    by_name : (p q : ℕ) → p < q → (q ≡ i) ⊎ (q < i) → name_at area p ≡ name_at area q → ⊥
    by_name p q l (inl t) e = fresh p (omega arith) (e ∙ ap (name_at area) t)
    by_name p q l (inr t) e = h.names p q l t e

    by_place : (j : ℕ) → (j ≡ i) ⊎ (j < i) → whole_block (part (256 + n * j) n area) ≡ true
    by_place j (inl t) = ap (λ (m : ℕ). whole_block (part (256 + n * m) n area)) t ∙ w
    by_place j (inr t) = h.wholes j t
