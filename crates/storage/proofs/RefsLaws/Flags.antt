-- A flag for each number that was met: the numbers so far are below m, and each once.
-- Assumes nothing.
use Rattle.std.proofs.Common.{◌≡◌, refl, sym, ap, ◌∙◌, ◌⊎◌, inl, inr, List, ℕ, zero, suc, ◌+◌, ◌≤◌, ◌<◌, eq-or-lt_of_le, arith, length, get_or, set, replicate, length-set, get_or-set_same, get_or-set_other}
use Rattle.storage.proofs.RowsLaws.Ids.{tri}
use Rattle.storage.specs.Refs.Once.{Numbers}

-- the number k was met before j
pub record Met (xs : List ℕ) (j k : ℕ) : Type 0 where
  pub at : ℕ
  pub before : at < j
  pub same : get_or xs at 0 ≡ k

pub record Seen (m : ℕ) (xs seen : List ℕ) (j : ℕ) : Type 0 where
  pub low : (p : ℕ) → p < j → get_or xs p 0 < m
  pub apart : (p q : ℕ) → p < q → q < j → get_or xs p 0 ≡ get_or xs q 0 → ⊥
  pub marks : (p : ℕ) → p < j → get_or seen (get_or xs p 0) 0 ≡ 1
  pub met : (k : ℕ) → 0 < get_or seen k 0 → Met xs j k
  pub long : length seen ≡ 32

zeros : (n k : ℕ) → ◌≡◌ {A = ℕ} (get_or (replicate {A = ℕ} n 0) k 0) 0
zeros zero k = refl
zeros (suc n) zero = refl
zeros (suc n) (suc k) = zeros n k

pub seen_start : (m : ℕ) (xs seen : List ℕ) → seen ≡ replicate {A = ℕ} 32 0 → Seen m xs seen 0
seen_start m xs seen e = record {
  low = λ p h. absurd (omega arith);
  apart = λ p q h l. absurd (omega arith);
  marks = λ p h. absurd (omega arith);
  met = λ k h. absurd (omega (arith, zeros 32 k, ap (λ (t : List ℕ). get_or t k 0) e));
  long = ap length e;
}

module _ (m : ℕ) (xs seen : List ℕ) (j x : ℕ) (s : Seen m xs seen j) (e : x ≡ get_or xs j 0) (l : x < m) (r : m ≤ 32) (z : get_or seen x 0 ≡ 0) where
  new : (p : ℕ) → p < j → get_or xs p 0 ≡ x → ⊥
  new p h g = omega (arith, s.marks p h, ap (λ (k : ℕ). get_or seen k 0) g)

  low' : (p : ℕ) → (p ≡ j) ⊎ (p < j) → get_or xs p 0 < m
  low' p (inl h) = omega (arith, ap (λ (k : ℕ). get_or xs k 0) h)
  low' p (inr h) = s.low p h

  apart' : (p q : ℕ) → p < q → (q ≡ j) ⊎ (q < j) → get_or xs p 0 ≡ get_or xs q 0 → ⊥
  apart' p q h (inl g) t = new p (omega arith) (t ∙ ap (λ (k : ℕ). get_or xs k 0) g ∙ sym e)
  apart' p q h (inr g) t = s.apart p q h g t

  marks' : (p : ℕ) → (p ≡ j) ⊎ (p < j) → get_or (set seen x 1) (get_or xs p 0) 0 ≡ 1
  marks' p (inl h) =
      ap (λ (k : ℕ). get_or (set seen x 1) k 0) (ap (λ (k : ℕ). get_or xs k 0) h ∙ sym e) ∙ get_or-set_same seen x 1 0 (omega (arith, s.long))
  marks' p (inr h) = get_or-set_other seen x (get_or xs p 0) 1 0 (new p h) ∙ s.marks p h

  other : (k : ℕ) → (k ≡ x → ⊥) → 0 < get_or (set seen x 1) k 0 → Met xs (j + 1) k
  other k n h =
      let o : Met xs j k = s.met k (omega (arith, get_or-set_other seen x k 1 0 n)) in
      record { at = o.at; before = omega (arith, o.before); same = o.same }

  met' : (k : ℕ) → (k < x) ⊎ ((k ≡ x) ⊎ (x < k)) → 0 < get_or (set seen x 1) k 0 → Met xs (j + 1) k
  met' k (inl t) h = other k (λ g. omega arith) h
  met' k (inr (inl t)) h = record { at = j; before = omega arith; same = sym e ∙ sym t }
  met' k (inr (inr t)) h = other k (λ g. omega arith) h

  pub seen_more : Seen m xs (set seen x 1) (j + 1)
  seen_more = record {
    low = λ p h. low' p (eq-or-lt_of_le (omega arith));
    apart = λ p q h g. apart' p q h (eq-or-lt_of_le (omega arith));
    marks = λ p h. marks' p (eq-or-lt_of_le (omega arith));
    met = λ k h. met' k (tri k x) h;
    long = length-set seen x 1 ∙ s.long;
  }

pub seen_all : (m : ℕ) (xs seen : List ℕ) (j : ℕ) → Seen m xs seen j → length xs ≤ j → Numbers m xs
seen_all m xs seen j s h = record { below = λ i l. s.low i (omega arith); once = λ p q l g. s.apart p q l (omega arith) }
