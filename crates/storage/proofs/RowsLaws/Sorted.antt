-- Keys that ascend: a search that halves, and a test of neighbours.
-- Assumes nothing.
use Rattle.std.proofs.Common.{◌≡◌, sym, ap, ◌∙◌, subst, ◌⊎◌, inl, inr, List, [], ℕ, ◌+◌, ◌-◌, ◌*◌, ◌≤◌, ◌<◌, zero-le, add-zero, eq-or-lt_of_le, arith, length, get_or}
use lib.ListN.{length-map, get_or-map}
use Rattle.storage.specs.Rows.Part.{part}
use Rattle.storage.specs.Rows.Digits.{be_from, be_nat}
use Rattle.storage.specs.Rows.Rows.{rows}
use Rattle.storage.specs.Rows.Sorted.{key_of, keys, Ascending}
use Rattle.storage.proofs.RowsLaws.Parts.{part-part}
use Rattle.storage.proofs.RowsLaws.Rows.{length-rows, get_d_rows}

pub length-keys : (s n : ℕ) (xs : List ℕ) → length (keys s n xs) ≡ n
unfolding keys
length-keys s n xs = length-map (rows s n xs) key_of ∙ length-rows s n xs

-- the key of row i, and that key as it lies in the slice
pub key_row : (s n i : ℕ) (xs : List ℕ) → i < n → get_or (keys s n xs) i 0 ≡ key_of (part (i * s) s xs)
unfolding keys key_of part be_from
key_row s n i xs l = get_or-map key_of (rows s n xs) i [] ∙ ap key_of (get_d_rows s n i [] xs l)

pub key-at : (s n i : ℕ) (xs : List ℕ) → 32 ≤ s → i < n → get_or (keys s n xs) i 0 ≡ be_nat (part (i * s) 32 xs)
unfolding key_of
key-at s n i xs h l =
    key_row s n i xs l
    ∙ ap be_nat (part-part 0 32 (i * s) s xs (omega arith) ∙ ap (λ (a : ℕ). part a 32 xs) (add-zero (i * s)))

-- lo and hi bracket k: the keys before lo are below it, and those from hi on above it
pub record Bracket (ks : List ℕ) (k lo hi : ℕ) : Type 0 where
  pub lo-hi : lo ≤ hi
  pub hi-end : hi ≤ length ks
  pub below : (j : ℕ) → j < lo → get_or ks j 0 < k
  pub above : (j : ℕ) → hi ≤ j → j < length ks → k < get_or ks j 0

pub bracket-start : (ks : List ℕ) (k n : ℕ) → length ks ≡ n → Bracket ks k 0 n
bracket-start ks k n e = record {
  lo-hi = zero-le;
  hi-end = omega arith;
  below = λ j h. absurd (omega arith);
  above = λ j h l. absurd (omega arith);
}

module _ (ks : List ℕ) (k lo hi mid : ℕ) (a : Ascending ks) (b : Bracket ks k lo hi) (lm : lo ≤ mid) (mh : mid < hi) where
  pub bracket-up : get_or ks mid 0 < k → Bracket ks k (mid + 1) hi
  bracket-up h = record { lo-hi = omega arith; hi-end = b.hi-end; below = up; above = b.above }
    where
      go : (j : ℕ) → (j ≡ mid) ⊎ (j < mid) → get_or ks j 0 < k
      go j (inl e) = subst (λ (i : ℕ). get_or ks i 0 < k) (sym e) h
      go j (inr l) = omega (arith, a.up j mid l (omega (arith, b.hi-end)))

      up : (j : ℕ) → j < mid + 1 → get_or ks j 0 < k
      up j l = go j (eq-or-lt_of_le (omega arith))

  pub bracket-down : k < get_or ks mid 0 → Bracket ks k lo mid
  bracket-down h = record { lo-hi = lm; hi-end = omega (arith, b.hi-end); below = b.below; above = down }
    where
      go : (j : ℕ) → (mid ≡ j) ⊎ (mid < j) → j < length ks → k < get_or ks j 0
      go j (inl e) l = subst (λ (i : ℕ). k < get_or ks i 0) e h
      go j (inr m) l = omega (arith, a.up mid j m l)

      down : (j : ℕ) → mid ≤ j → j < length ks → k < get_or ks j 0
      down j m l = go j (eq-or-lt_of_le m) l

-- the first i keys ascend
pub record AscendTo (ks : List ℕ) (i : ℕ) : Type 0 where
  pub to : (p q : ℕ) → p < q → q < i → get_or ks p 0 < get_or ks q 0

pub ascend-start : (ks : List ℕ) → AscendTo ks 1
ascend-start ks = record { to = λ p q h l. absurd (omega arith) }

pub ascend-more : (ks : List ℕ) (i : ℕ) → 0 < i → AscendTo ks i → get_or ks (i - 1) 0 < get_or ks i 0 → AscendTo ks (i + 1)
ascend-more ks i pos a h = record { to = λ p q l m. by-q p q l (eq-or-lt_of_le (omega arith)) }
  where
    by-p : (p : ℕ) → (p ≡ i - 1) ⊎ (p < i - 1) → get_or ks p 0 < get_or ks i 0
    by-p p (inl e) = subst (λ (j : ℕ). get_or ks j 0 < get_or ks i 0) (sym e) h
    by-p p (inr l) = omega (arith, a.to p (i - 1) l (omega arith))

    by-q : (p q : ℕ) → p < q → (q ≡ i) ⊎ (q < i) → get_or ks p 0 < get_or ks q 0
    by-q p q l (inl e) = subst (λ (j : ℕ). get_or ks p 0 < get_or ks j 0) (sym e) (by-p p (eq-or-lt_of_le (omega arith)))
    by-q p q l (inr m) = a.to p q l m

pub ascend-done : (ks : List ℕ) (i n : ℕ) → length ks ≡ n → n ≤ i → AscendTo ks i → Ascending ks
ascend-done ks i n e h a = record { up = λ p q l m. a.to p q l (omega arith) }

pub ascend-not : (ks : List ℕ) (i : ℕ) → 0 < i → i < length ks → get_or ks i 0 ≤ get_or ks (i - 1) 0 → Ascending ks → ⊥
ascend-not ks i pos l h a = omega (arith, a.up (i - 1) i (omega arith) l)

-- an order of two numbers, carried to numbers that equal them: over variables, so that `omega` meets no identifier's words
pub lt_of : (a b x y : ℕ) → a ≡ x → b ≡ y → a < b → x < y
lt_of a b x y e f h = omega arith

pub not-lt-of : (a b x y : ℕ) → a ≡ x → b ≡ y → b ≤ a → y ≤ x
not-lt-of a b x y e f h = omega arith
